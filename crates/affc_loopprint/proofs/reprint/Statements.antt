-- A printed statement has at most twice the tokens of a text that reads as it, runs at most twice as long, at most three times its brackets with one more for
-- each loop and condition round it, and no more words `for` and `if`.
use Rattle.std.proofs.Common.{◌≡◌, ℕ, ◌+◌, ◌*◌, ◌≤◌, Bool, true, false, max, List, [], ◌∷◌, ◌++◌, length, map, codes, Ok, refl, sym, ap, subst, ◌∙◌, arith, append_assoc, length-append, if◌then◌else◌}
use Rattle.std.specs.Prelude.{Option}
use Rattle.std.proofs.lemmas.Bool.{false≢true}
use Rattle.affc_ast.specs.declared.tree.Ix.{Ix}
use Rattle.affc_ast.specs.declared.tree.Op.{Op}
use Rattle.affc_ast.specs.declared.tree.Val.{Val}
use Rattle.affc_ast.specs.declared.tree.Stmt.{Stmt}
use Rattle.affc_ast.specs.declared.tree.Stmt.TheVariants as stmt
use Rattle.affc_grammar.specs.Grammar as g
use Rattle.affc_grammar.specs.Grammar.{Name, Symbol, word, mark, bound_mark, assign_mark, StepText, StmtsText, StmtText, SimpleText, BodyText, ix_symbols, dims_symbols, cond_symbols, value_symbols, step_symbols, stmts_symbols, stmt_symbols, simple_symbols, body_symbols}
use Rattle.affc_grammar.specs.Draft.{ix_draft, dims_draft, cond_draft, value_draft, bound_rel, head_draft, head_length, stmts_draft, stmt_draft, simple_draft, body_draft}
use Rattle.affc_grammar.specs.Limits.{count_run, count_open, count_item, is_item, is_opening, is_closing}
use Rattle.affc_grammar.specs.Names.{Scope, each, ix_tree, cond_tree, value_tree, array_named, why_declared, why_repeated, with_number, head_tree, stmts_tree, stmt_tree}
use Rattle.affc_wellnamed.specs.declared.shape.Extent.{Extent}
use Rattle.affc_wellnamed.specs.declared.shape.Shape.{Shape}
use Rattle.affc_wellnamed.specs.Shape.{nothing, beside, and_tokens, whole, dims_behind, cond_extent, at_level, val_extent, both, line, worded, closed, all_behind, else_head, other_behind, for_head, assign_line, stmt_step, stmt_shape}
use Rattle.affc_cprint.specs.declared.brackets.Level.TheVariants as level
use Rattle.affc_cprint.proofs.Arms.{for_here, if_here, block_here}
use Rattle.affc_cprint.proofs.Sees.{ok_of, both_ok, allowed_ok}
use Rattle.affc_wellnamed.proofs.Counts.{after, highest, after_both, highest_both, Adds, Rises, rises_both, rises_more, rises_within, none_risen, NoBracket, run_more}
use Rattle.affc_wellnamed.proofs.ShapeParts.{larger_is}
use Rattle.affc_wellnamed.proofs.ShapeStatements.{Numbers, joined, none}
use Rattle.affc_loopprint.proofs.reprint.Rows.{IsInRow, lies_none, lies_more, word_lies, assign_lies}
use Rattle.affc_loopprint.proofs.reprint.Expressions.{WholeFits, whole_read}
use Rattle.affc_loopprint.proofs.reprint.Values.{RowFits, row_joined, row_plain, dims_read, value_fits}
use Rattle.affc_loopprint.proofs.reprint.Conditions.{CondFits, cond_read}
use Rattle.affc_loopprint.proofs.reprint.Nests.{nest, nest_stmt, nest_simple, nest_body}

-- ---- What a text has at least

-- from whatever comes before
pub record HasRun (k : ℕ) (ss : List Symbol) : Type 0 where
  pub most : (n : ℕ) → k ≤ highest count_run n ss

pub record HasItems (k : ℕ) (ss : List Symbol) : Type 0 where
  pub behind : (n : ℕ) → n + k ≤ after count_item n ss

pub run_row : (k : ℕ) (ss : List Symbol) → Adds count_run k ss → HasRun k ss
run_row k ss a = record { most = λ n. let m = a.most n in omega (arith, m) }

pub run_left : (k : ℕ) (xs ys : List Symbol) → HasRun k xs → HasRun k (xs ++ ys)
run_left k xs ys h = record { most = λ n. let e = highest_both count_run n xs ys in let l = h.most n in omega (arith, e, l) }

pub run_right : (k : ℕ) (xs ys : List Symbol) → HasRun k ys → HasRun k (xs ++ ys)
run_right k xs ys h = record { most = λ n. let e = highest_both count_run n xs ys in let l = h.most (after count_run n xs) in omega (arith, e, l) }

pub run_tail : (k : ℕ) (x : Symbol) (ys : List Symbol) → HasRun k ys → HasRun k (x ∷ ys)
run_tail k x ys h = record { most = λ n. let l = h.most (count_run n x) in omega (arith, l) }

pub run_most : (j k : ℕ) (ss : List Symbol) → HasRun j ss → HasRun k ss → HasRun (max j k) ss
run_most j k ss p q = record { most = λ n. let a = p.most n in let b = q.most n in omega (arith, a, b) }

pub items_none : HasItems 0 []
items_none = record { behind = λ n. omega arith }

counts_on : (x : Symbol) (n : ℕ) → n ≤ count_item n x
counts_on x n = of (is_item x)
  where
    of : (b : Bool) → n ≤ (if b then n + 1 else n)
    of true = omega arith
    of false = omega arith

pub items_tail : (k : ℕ) (x : Symbol) (ys : List Symbol) → HasItems k ys → HasItems k (x ∷ ys)
items_tail k x ys h = record { behind = λ n. let l = h.behind (count_item n x) in let c = counts_on x n in omega (arith, l, c) }

pub items_here : (k : ℕ) (x : Symbol) (ys : List Symbol) → is_item x ≡ true → HasItems k ys → HasItems (k + 1) (x ∷ ys)
items_here k x ys e h = record { behind = λ n. let l = h.behind (count_item n x) in let c = ap (λ b. if b then n + 1 else n) e in omega (arith, l, c) }

pub items_both : (j k : ℕ) (xs ys : List Symbol) → HasItems j xs → HasItems k ys → HasItems (j + k) (xs ++ ys)
items_both j k xs ys p q = record { behind = λ n. let e = after_both count_item n xs ys in let a = p.behind n in let b = q.behind (after count_item n xs) in omega (arith, e, a, b) }

pub items_any : (ss : List Symbol) → HasItems 0 ss
items_any [] = items_none
items_any (s ∷ ss) = items_tail 0 s ss (items_any ss)

pub items_right : (k : ℕ) (xs ys : List Symbol) → HasItems k ys → HasItems k (xs ++ ys)
items_right k xs ys h = record { behind = λ n. let a = (items_both 0 k xs ys (items_any xs) h).behind n in omega (arith, a) }

pub items_left : (k : ℕ) (xs ys : List Symbol) → HasItems k xs → HasItems k (xs ++ ys)
items_left k xs ys h = record { behind = λ n. let a = (items_both k 0 xs ys h (items_any ys)).behind n in omega (arith, a) }

-- brackets, with what stands behind them
pub rises_before : (d e : ℕ) (first last : Symbol) (ss rest : List Symbol) → is_opening first ≡ true → is_closing last ≡ true → is_opening last ≡ false → Rises count_open d ss → Rises count_open e rest
    → Rises count_open (max (d + 1) e) (first ∷ (ss ++ last ∷ rest))
rises_before d e first last ss rest a b c p q =
    subst (λ l. Rises count_open (max (d + 1) e) (first ∷ l)) (append_assoc ss (last ∷ []) rest) (rises_both count_open (d + 1) e (first ∷ (ss ++ last ∷ [])) rest (rises_within d first last ss a b c p) q)

-- ---- What is printed has at most

abbrev pub numbers_of : Shape → Numbers
numbers_of s = record { tokens = s.tokens; run = s.run; depth = s.depth; items = s.items }

abbrev pub total : List Shape → Numbers
total [] = none
total (s ∷ ss) = joined (numbers_of s) (total ss)

pub record AtMost (m n : Numbers) : Type 0 where
  pub tokens : m.tokens ≤ n.tokens
  pub run : m.run ≤ n.run
  pub depth : m.depth ≤ n.depth
  pub items : m.items ≤ n.items

pub most_self : (n : Numbers) → AtMost n n
most_self n = record { tokens = omega arith; run = omega arith; depth = omega arith; items = omega arith }

pub most_both : (a b : Shape) (m n : Numbers) → AtMost (numbers_of a) m → AtMost (numbers_of b) n → AtMost (numbers_of (both a b)) (joined m n)
most_both a b m n p q =
    let x = larger_is a.run b.run in let y = larger_is a.depth b.depth in
    let t = p.tokens in let u = q.tokens in let r = p.run in let s = q.run in let d = p.depth in let e = q.depth in let i = p.items in let j = q.items in
    record { tokens = omega (arith, t, u); run = omega (arith, r, s, x); depth = omega (arith, d, e, y); items = omega (arith, i, j) }

-- all behind a shape
pub behind_most : (a : Shape) (m : Numbers) (ss : List Shape) → AtMost (numbers_of a) m → AtMost (numbers_of (all_behind a ss)) (joined m (total ss))
behind_most a m [] p = let t = p.tokens in let r = p.run in let d = p.depth in let i = p.items in record { tokens = omega (arith, t); run = omega (arith, r); depth = omega (arith, d); items = omega (arith, i) }
behind_most a m (s ∷ ss) p =
    let q = behind_most (both a s) (joined m (numbers_of s)) ss (most_both a s m (numbers_of s) p (most_self (numbers_of s))) in
    let t = q.tokens in let r = q.run in let d = q.depth in let i = q.items in
    record { tokens = omega (arith, t); run = omega (arith, r); depth = omega (arith, d); items = omega (arith, i) }

pub total_last : (xs : List Shape) (x : Shape) → AtMost (total (xs ++ x ∷ [])) (joined (total xs) (numbers_of x))
total_last [] x = record { tokens = omega arith; run = omega arith; depth = omega arith; items = omega arith }
total_last (y ∷ xs) x =
    let q = total_last xs x in
    let t = q.tokens in let r = q.run in let d = q.depth in let i = q.items in
    record { tokens = omega (arith, t); run = omega (arith, r); depth = omega (arith, d); items = omega (arith, i) }

-- ---- A text, and numbers that are no more than it allows

pub record Holds (ss : List Symbol) (n : Numbers) (height : ℕ) : Type 0 where
  pub run : ℕ
  pub deep : ℕ
  pub items : ℕ
  pub has_run : HasRun run ss
  pub brackets : Rises count_open deep ss
  pub has_items : HasItems items ss
  pub few : n.tokens ≤ 2 * length ss
  pub short : n.run ≤ 2 * run
  pub shallow : n.depth ≤ 3 * deep + height
  pub counted : n.items ≤ items

pub holds_none : Holds [] none 0
holds_none = record { run = 0; deep = 0; items = 0; has_run = record { most = λ n. omega arith }; brackets = none_risen count_open; has_items = items_none; few = omega arith; short = omega arith; shallow = omega arith; counted = omega arith }

pub holds_less : (ss : List Symbol) (m n : Numbers) (h k : ℕ) → AtMost m n → h ≤ k → Holds ss n h → Holds ss m k
holds_less ss m n h k p le f =
    let t = p.tokens in let r = p.run in let d = p.depth in let i = p.items in
    let a = f.few in let b = f.short in let c = f.shallow in let e = f.counted in
    record { run = f.run; deep = f.deep; items = f.items; has_run = f.has_run; brackets = f.brackets; has_items = f.has_items; few = omega (arith, t, a); short = omega (arith, r, b); shallow = omega (arith, d, c, le); counted = omega (arith, i, e) }

pub holds_both : (xs ys : List Symbol) (m n : Numbers) (h k : ℕ) → Holds xs m h → Holds ys n k → Holds (xs ++ ys) (joined m n) (max h k)
holds_both xs ys m n h k p q =
    let l = length-append xs ys in
    let a = p.few in let b = p.short in let c = p.shallow in let e = p.counted in
    let a' = q.few in let b' = q.short in let c' = q.shallow in let e' = q.counted in
    record {
      run = max p.run q.run;
      deep = max p.deep q.deep;
      items = p.items + q.items;
      has_run = run_most p.run q.run (xs ++ ys) (run_left p.run xs ys p.has_run) (run_right q.run xs ys q.has_run);
      brackets = rises_both count_open p.deep q.deep xs ys p.brackets q.brackets;
      has_items = items_both p.items q.items xs ys p.has_items q.has_items;
      few = omega (arith, l, a, a');
      short = omega (arith, b, b');
      shallow = omega (arith, c, c');
      counted = omega (arith, e, e');
    }

-- a line: tokens in a row and what ends them
pub line_holds : (more : ℕ) (ss : List Symbol) (last : Symbol) (e : Extent) → NoBracket last → RowFits ss (and_tokens more e) → Holds (ss ++ last ∷ []) (numbers_of (line more e)) 0
line_holds more ss last e h f =
    let l = length-append ss (last ∷ []) in
    let u = f.within.few in let v = f.within.shallow in
    record {
      run = length ss;
      deep = max f.deep 0;
      items = 0;
      has_run = run_left (length ss) ss (last ∷ []) (run_row (length ss) ss f.lies.run);
      brackets = rises_both count_open f.deep 0 ss (last ∷ []) f.lies.brackets (rises_more 0 last [] h (none_risen count_open));
      has_items = items_any (ss ++ last ∷ []);
      few = omega (arith, l, u);
      short = omega (arith, u);
      shallow = omega (arith, v);
      counted = omega arith;
    }

abbrev semicolon : Symbol
semicolon = mark (codes ";")

bound_lies : (strict : Bool) → IsInRow (mark (bound_mark strict))
bound_lies true = record { separator = refl; bracket = record { opening = refl; closing = refl } }
bound_lies false = record { separator = refl; bracket = record { opening = refl; closing = refl } }

-- a step is at least two tokens
step_long : (s : StepText) → 2 ≤ length (step_symbols s)
step_long (g.then_up w) = omega arith
step_long (g.up_then w) = omega arith
step_long (g.up_by_one w) = omega arith

step_rises : (s : StepText) → Rises count_open 0 (step_symbols s)
step_rises (g.then_up w) = (lies_more 0 (word w) _ (word_lies w) (lies_more 0 (mark (codes "++")) [] (record { separator = refl; bracket = record { opening = refl; closing = refl } }) lies_none)).brackets
step_rises (g.up_then w) = (lies_more 0 (mark (codes "++")) _ (record { separator = refl; bracket = record { opening = refl; closing = refl } }) (lies_more 0 (word w) [] (word_lies w) lies_none)).brackets
step_rises (g.up_by_one w) =
    (lies_more 0 (word w) _ (word_lies w) (lies_more 0 (mark (codes "+=")) _ (record { separator = refl; bracket = record { opening = refl; closing = refl } }) (lies_more 0 (g.number (codes "1")) [] (record { separator = refl; bracket = record { opening = refl; closing = refl } }) lies_none))).brackets

-- ---- Bounds on what is printed of a loop, a condition and a block, by those on their bodies

abbrev loop_bound : (low high : Extent) → Numbers → Numbers
loop_bound low high b = record { tokens = low.tokens + high.tokens + 14 + b.tokens; run = max (max (low.tokens + 5) (high.tokens + 2)) (max 3 b.run); depth = max (max low.depth high.depth) b.depth + 1; items = b.items + 1 }

abbrev test_bound : Extent → Numbers → Numbers
test_bound e b = record { tokens = e.tokens + 9 + b.tokens; run = max (e.tokens + 3) b.run; depth = max e.depth b.depth + 1; items = b.items + 1 }

-- what follows an `else`, with tokens round it that aren't counted with the condition
abbrev else_bound : Numbers → Numbers
else_bound b = record { tokens = b.tokens + 2; run = b.run; depth = b.depth; items = b.items }

abbrev pub in_braces : Numbers → Numbers
in_braces b = record { tokens = b.tokens + 2; run = b.run; depth = b.depth + 1; items = b.items }

-- ---- Loops

module _ (iterator tested : Name) (strict : Bool) (ls hs bs : List Symbol) (step : StepText) (low high : Extent) (p : WholeFits ls low) (q : WholeFits hs high) (b : Numbers) (height : ℕ) (body : Holds bs b height) where
  abbrev loop_end : List Symbol
  loop_end = step_symbols step ++ mark (codes ")") ∷ bs

  abbrev loop_mid : List Symbol
  loop_mid = word tested ∷ mark (bound_mark strict) ∷ (hs ++ semicolon ∷ loop_end)

  abbrev loop_symbols : List Symbol
  loop_symbols = word (codes "for") ∷ mark (codes "(") ∷ word (codes "int64_t") ∷ word iterator ∷ mark (codes "=") ∷ (ls ++ semicolon ∷ loop_mid)

  loop_run : HasRun (max (max (5 + length ls) (2 + length hs)) body.run) loop_symbols
  loop_run =
      let one : Adds count_run (1 + (1 + (1 + (1 + (1 + length ls))))) (word (codes "for") ∷ mark (codes "(") ∷ word (codes "int64_t") ∷ word iterator ∷ mark (codes "=") ∷ ls) =
      run_more _ (word (codes "for")) _ refl (run_more _ (mark (codes "(")) _ refl (run_more _ (word (codes "int64_t")) _ refl (run_more _ (word iterator) _ refl (run_more _ (mark (codes "=")) ls refl p.lies.run)))) in
      let two : Adds count_run (1 + (1 + length hs)) (word tested ∷ mark (bound_mark strict) ∷ hs) = run_more _ (word tested) _ refl (run_more _ (mark (bound_mark strict)) hs (bound_lies strict).separator q.lies.run) in
      let first = run_left _ (word (codes "for") ∷ mark (codes "(") ∷ word (codes "int64_t") ∷ word iterator ∷ mark (codes "=") ∷ ls) (semicolon ∷ loop_mid) (run_row _ _ one) in
      let second = front (run_left _ (word tested ∷ mark (bound_mark strict) ∷ hs) (semicolon ∷ loop_end) (run_row _ _ two)) in
      let third = front (run_tail _ (word tested) _ (run_tail _ (mark (bound_mark strict)) _ (run_right _ hs (semicolon ∷ loop_end) (run_tail _ semicolon _ (run_right _ (step_symbols step) _ (run_tail _ (mark (codes ")")) bs body.has_run)))))) in
      record { most = λ n. let x = first.most n in let y = second.most n in let z = third.most n in omega (arith, x, y, z) }
    where
      front : {k : ℕ} → HasRun k loop_mid → HasRun k loop_symbols
      front h = run_tail _ (word (codes "for")) _ (run_tail _ (mark (codes "(")) _ (run_tail _ (word (codes "int64_t")) _ (run_tail _ (word iterator) _ (run_tail _ (mark (codes "=")) _ (run_right _ ls (semicolon ∷ loop_mid) (run_tail _ semicolon loop_mid h))))))

  abbrev between : List Symbol
  between = word (codes "int64_t") ∷ word iterator ∷ mark (codes "=") ∷ (ls ++ semicolon ∷ word tested ∷ mark (bound_mark strict) ∷ (hs ++ semicolon ∷ step_symbols step))

  loop_grouped : word (codes "for") ∷ mark (codes "(") ∷ (between ++ mark (codes ")") ∷ bs) ≡ loop_symbols
  loop_grouped = ap (λ z. word (codes "for") ∷ mark (codes "(") ∷ word (codes "int64_t") ∷ word iterator ∷ mark (codes "=") ∷ z)
      (append_assoc ls (semicolon ∷ word tested ∷ mark (bound_mark strict) ∷ (hs ++ semicolon ∷ step_symbols step)) (mark (codes ")") ∷ bs)
      ∙ ap (λ z. ls ++ semicolon ∷ word tested ∷ mark (bound_mark strict) ∷ z) (append_assoc hs (semicolon ∷ step_symbols step) (mark (codes ")") ∷ bs)))

  loop_brackets : Rises count_open (max (max p.deep (max q.deep 0) + 1) body.deep) loop_symbols
  loop_brackets =
      let plain : NoBracket (mark (codes "=")) = record { opening = refl; closing = refl } in
      let ends : NoBracket semicolon = record { opening = refl; closing = refl } in
      let tail = rises_both count_open q.deep 0 hs (semicolon ∷ step_symbols step) q.lies.brackets (rises_more 0 semicolon _ ends (step_rises step)) in
      let rest = rises_more _ semicolon _ ends (rises_more _ (word tested) _ (word_lies tested).bracket (rises_more _ (mark (bound_mark strict)) _ (bound_lies strict).bracket tail)) in
      let inner = rises_more _ (word (codes "int64_t")) _ (word_lies (codes "int64_t")).bracket (rises_more _ (word iterator) _ (word_lies iterator).bracket (rises_more _ (mark (codes "=")) _ plain (rises_both count_open p.deep _ ls _ p.lies.brackets rest))) in
      subst (Rises count_open (max (max p.deep (max q.deep 0) + 1) body.deep)) loop_grouped
      (rises_more _ (word (codes "for")) _ (word_lies (codes "for")).bracket (rises_before (max p.deep (max q.deep 0)) body.deep (mark (codes "(")) (mark (codes ")")) between bs refl refl refl inner body.brackets))

  loop_items : HasItems (body.items + 1) loop_symbols
  loop_items = items_here body.items (word (codes "for")) _ refl (items_tail _ (mark (codes "(")) _ (items_tail _ (word (codes "int64_t")) _ (items_tail _ (word iterator) _ (items_tail _ (mark (codes "=")) _ (items_right _ ls _
      (items_tail _ semicolon _ (items_tail _ (word tested) _ (items_tail _ (mark (bound_mark strict)) _ (items_right _ hs _ (items_tail _ semicolon _ (items_right _ (step_symbols step) _ (items_tail _ (mark (codes ")")) bs body.has_items))))))))))))

  loop_holds : Holds loop_symbols (loop_bound low high b) (height + 1)
  loop_holds =
      let a = length-append ls (semicolon ∷ loop_mid) in
      let c = length-append hs (semicolon ∷ loop_end) in
      let d = length-append (step_symbols step) (mark (codes ")") ∷ bs) in
      let e = step_long step in
      let f = p.within.few in let g = q.within.few in let h = body.few in
      let i = p.within.shallow in let j = q.within.shallow in let k = body.shallow in
      let l = body.short in let m = body.counted in
      record {
        run = max (max (5 + length ls) (2 + length hs)) body.run;
        deep = max (max p.deep (max q.deep 0) + 1) body.deep;
        items = body.items + 1;
        has_run = loop_run;
        brackets = loop_brackets;
        has_items = loop_items;
        few = omega (arith, a, c, d, e, f, g, h);
        short = omega (arith, f, g, l);
        shallow = omega (arith, i, j, k);
        counted = omega (arith, m);
      }

-- ---- Conditions

module _ (cs : List Symbol) (e : Extent) (p : CondFits cs e) (bs : List Symbol) (b : Numbers) (height : ℕ) (body : Holds bs b height) where
  abbrev test_symbols : List Symbol
  test_symbols = word (codes "if") ∷ mark (codes "(") ∷ (cs ++ mark (codes ")") ∷ bs)

  test_run : HasRun (max (2 + length cs) body.run) test_symbols
  test_run =
      let one : Adds count_run (1 + (1 + length cs)) (word (codes "if") ∷ mark (codes "(") ∷ cs) = run_more _ (word (codes "if")) _ refl (run_more _ (mark (codes "(")) cs refl p.lies.run) in
      let first = run_left _ (word (codes "if") ∷ mark (codes "(") ∷ cs) (mark (codes ")") ∷ bs) (run_row _ _ one) in
      let second = run_tail _ (word (codes "if")) _ (run_tail _ (mark (codes "(")) _ (run_right _ cs _ (run_tail _ (mark (codes ")")) bs body.has_run))) in
      record { most = λ n. let x = first.most n in let y = second.most n in omega (arith, x, y) }

  test_holds : Holds test_symbols (test_bound e b) (height + 1)
  test_holds =
      let a = length-append cs (mark (codes ")") ∷ bs) in
      let f = p.few in let h = body.few in
      let i = p.shallow in let k = body.shallow in
      let l = body.short in let m = body.counted in
      record {
        run = max (2 + length cs) body.run;
        deep = max (p.deep + 1) body.deep;
        items = body.items + 1;
        has_run = test_run;
        brackets = rises_more _ (word (codes "if")) _ (word_lies (codes "if")).bracket (rises_before p.deep body.deep (mark (codes "(")) (mark (codes ")")) cs bs refl refl refl p.lies.brackets body.brackets);
        has_items = items_here body.items (word (codes "if")) _ refl (items_tail _ (mark (codes "(")) _ (items_right _ cs _ (items_tail _ (mark (codes ")")) bs body.has_items)));
        few = omega (arith, a, f, h);
        short = omega (arith, f, l);
        shallow = omega (arith, i, k);
        counted = omega (arith, m);
      }

-- two branches
branches_hold : (bs os : List Symbol) (b o : Numbers) (h k : ℕ) → Holds bs b h → Holds os o k → Holds (bs ++ word (codes "else") ∷ os) (joined b (else_bound o)) (max h k)
branches_hold bs os b o h k body other =
    let few = other.few in let short = other.short in let shallow = other.shallow in let counted = other.counted in
    holds_both bs (word (codes "else") ∷ os) b (else_bound o) h k body (record {
      run = other.run;
      deep = other.deep;
      items = other.items;
      has_run = run_tail _ (word (codes "else")) os other.has_run;
      brackets = rises_more _ (word (codes "else")) os (word_lies (codes "else")).bracket other.brackets;
      has_items = items_tail _ (word (codes "else")) os other.has_items;
      few = omega (arith, few);
      short = omega (arith, short);
      shallow = omega (arith, shallow);
      counted = omega (arith, counted);
    })

-- ---- Braces

pub braces_hold : (bs : List Symbol) (b : Numbers) (height : ℕ) → Holds bs b height → Holds (mark (codes "{") ∷ (bs ++ mark (codes "}") ∷ [])) (in_braces b) height
braces_hold bs b height body =
    let l = length-append bs (mark (codes "}") ∷ []) in
    let h = body.few in let k = body.shallow in
    record {
      run = body.run;
      deep = body.deep + 1;
      items = body.items;
      has_run = run_tail _ (mark (codes "{")) _ (run_left _ bs (mark (codes "}") ∷ []) body.has_run);
      brackets = rises_within body.deep (mark (codes "{")) (mark (codes "}")) bs refl refl refl body.brackets;
      has_items = items_tail _ (mark (codes "{")) _ (items_left body.items bs (mark (codes "}") ∷ []) body.has_items);
      few = omega (arith, l, h);
      short = body.short;
      shallow = omega (arith, k);
      counted = body.counted;
    }

-- ---- What is printed of a loop, a condition and a block

for_most : (low high : Ix) (body : List Shape) → AtMost (numbers_of (worded (closed (all_behind (for_head false low high) body)))) (loop_bound (whole false low) (whole false high) (total body))
for_most low high body =
    let a = line 5 (whole false low) in
    let b = line 2 (whole false high) in
    let c = line 3 nothing in
    let all = all_behind (for_head false low high) body in
    let p = behind_most (for_head false low high) (joined (joined (numbers_of a) (numbers_of b)) (numbers_of c)) body
    (most_both (both a b) c _ _ (most_both a b _ _ (most_self (numbers_of a)) (most_self (numbers_of b))) (most_self (numbers_of c))) in
    let t = p.tokens in let r = p.run in let d = p.depth in let i = p.items in
    let x = larger_is all.run (line 0 nothing).run in let y = larger_is all.depth (line 0 nothing).depth in
    record { tokens = omega (arith, t); run = omega (arith, r, x); depth = omega (arith, d, y); items = omega (arith, i) }

if_most : (e : Extent) (body : List Shape) → AtMost (numbers_of (worded (closed (all_behind (line 3 e) body)))) (test_bound e (total body))
if_most e body =
    let a = line 3 e in
    let all = all_behind a body in
    let p = behind_most a (numbers_of a) body (most_self (numbers_of a)) in
    let t = p.tokens in let r = p.run in let d = p.depth in let i = p.items in
    let x = larger_is all.run (line 0 nothing).run in let y = larger_is all.depth (line 0 nothing).depth in
    record { tokens = omega (arith, t); run = omega (arith, r, x); depth = omega (arith, d, y); items = omega (arith, i) }

else_head_most : AtMost (numbers_of else_head) (record { tokens = 3; run = 1; depth = 0; items = 0 })
else_head_most = record { tokens = omega arith; run = omega arith; depth = omega arith; items = omega arith }

other_most : (e : Extent) (body other : List Shape) → AtMost (numbers_of (worded (closed (other_behind (all_behind (line 3 e) body) other)))) (test_bound e (joined (total body) (else_bound (total other))))
other_most e body [] =
    let p = if_most e body in
    let t = p.tokens in let r = p.run in let d = p.depth in let i = p.items in
    record { tokens = omega (arith, t); run = omega (arith, r); depth = omega (arith, d); items = omega (arith, i) }
other_most e body (s ∷ ss) =
    let a = line 3 e in
    let front = both (all_behind a body) else_head in
    let all = all_behind front (s ∷ ss) in
    let before = joined (joined (numbers_of a) (total body)) (record { tokens = 3; run = 1; depth = 0; items = 0 }) in
    let p = behind_most front before (s ∷ ss) (most_both (all_behind a body) else_head _ _ (behind_most a (numbers_of a) body (most_self (numbers_of a))) else_head_most) in
    let t = p.tokens in let r = p.run in let d = p.depth in let i = p.items in
    let x = larger_is all.run (line 0 nothing).run in let y = larger_is all.depth (line 0 nothing).depth in
    record { tokens = omega (arith, t); run = omega (arith, r, x); depth = omega (arith, d, y); items = omega (arith, i) }

block_most : (body : List Shape) → AtMost (numbers_of (closed (all_behind (line 0 nothing) body))) (in_braces (total body))
block_most body =
    let all = all_behind (line 0 nothing) body in
    let p = behind_most (line 0 nothing) (numbers_of (line 0 nothing)) body (most_self (numbers_of (line 0 nothing))) in
    let t = p.tokens in let r = p.run in let d = p.depth in let i = p.items in
    let x = larger_is all.run (line 0 nothing).run in let y = larger_is all.depth (line 0 nothing).depth in
    record { tokens = omega (arith, t); run = omega (arith, r, x); depth = omega (arith, d, y); items = omega (arith, i) }

-- ---- The statements that a text reads as

abbrev pub shapes : List Stmt → List Shape
shapes xs = map (stmt_shape false) xs

mapped_last : (xs : List Stmt) (x : Stmt) → shapes (xs ++ x ∷ []) ≡ shapes xs ++ stmt_shape false x ∷ []
mapped_last [] x = refl
mapped_last (y ∷ xs) x = ap (λ l. stmt_shape false y ∷ l) (mapped_last xs x)

last_holds : (ss ts : List Symbol) (xs : List Stmt) (x : Stmt) (h k : ℕ) → Holds ss (total (shapes xs)) h → Holds ts (numbers_of (stmt_shape false x)) k → Holds (ss ++ ts) (total (shapes (xs ++ x ∷ []))) (max h k)
last_holds ss ts xs x h k p q =
    subst (λ l. Holds (ss ++ ts) (total l) (max h k)) (sym (mapped_last xs x))
    (holds_less (ss ++ ts) _ (joined (total (shapes xs)) (numbers_of (stmt_shape false x))) (max h k) (max h k) (total_last (shapes xs) (stmt_shape false x)) (omega arith)
    (holds_both ss ts (total (shapes xs)) (numbers_of (stmt_shape false x)) h k p q))

one_holds : (ss : List Symbol) (x : Stmt) (h : ℕ) → Holds ss (numbers_of (stmt_shape false x)) h → Holds ss (total (shapes (x ∷ []))) h
one_holds ss x h p = holds_less ss _ (numbers_of (stmt_shape false x)) h h (record { tokens = omega arith; run = omega arith; depth = omega arith; items = omega arith }) (omega arith) p

body_in_braces : (bs : List Symbol) (b : Numbers) (h : ℕ) → Holds bs b h → Holds (mark (codes "{") ∷ (bs ++ mark (codes "}") ∷ [])) b h
body_in_braces bs b h p = holds_less _ b (in_braces b) h h (record { tokens = omega arith; run = omega arith; depth = omega arith; items = omega arith }) (omega arith) (braces_hold bs b h p)

stmt_at : (ss : List Symbol) (x y : Stmt) (s : Shape) (h : ℕ) → x ≡ y → stmt_shape false x ≡ s → Holds ss (numbers_of s) h → Holds ss (numbers_of (stmt_shape false y)) h
stmt_at ss x y s h p q f = subst (λ z. Holds ss (numbers_of (stmt_shape false z)) h) p (subst (λ z. Holds ss (numbers_of z) h) (sym q) f)

abbrev low_place : ℕ → ℕ
low_place at = at + 5

abbrev high_place : ℕ → g.IxText false → ℕ
high_place at low = at + 5 + length (ix_symbols low) + 1 + 2

bounds_read : (scope : Scope) (at : ℕ) (iterator : Name) (low : g.IxText false) (tested : Name) (strict : Bool) (high : g.IxText false) (step : StepText) (r : Ix × Ix) → head_tree scope (head_draft at iterator low tested strict high step) ≡ Ok r
    → (ix_tree scope (ix_draft (low_place at) low) ≡ Ok r.0) × (ix_tree scope (ix_draft (high_place at low) high) ≡ Ok r.1)
bounds_read scope at iterator low tested strict high step r h =
    let hd = head_draft at iterator low tested strict high step in
    let a = allowed_ok (why_declared scope true iterator) hd.iterator.at _ r h in
    let b = both_ok (ix_tree scope (ix_draft (low_place at) low)) _ r a.1 in
    let c = allowed_ok (why_repeated scope iterator tested) hd.tested.at _ r b.2 in
    let d = both_ok (ix_tree scope (ix_draft (high_place at low) high)) _ r c.1 in
    let e = allowed_ok (why_repeated scope iterator hd.stepped.name) hd.stepped.at _ r d.2 in
    let same : ◌≡◌ {A = Ix × Ix} (b.0, d.0) r = ok_of e.1 in
    (b.1 ∙ ap (λ (z : Ix × Ix). Ok z.0) same, d.1 ∙ ap (λ (z : Ix × Ix). Ok z.1) same)

assign_fits : (scope : Scope) (at : ℕ) (array : Name) (subs : g.DimsText false) (o : Option Op) (v : g.ValueText false 6) (xs : List Ix) (x : Val) → each (ix_tree scope) (dims_draft (at + 1) subs) ≡ Ok xs
    → value_tree scope (value_draft (at + 1 + length (dims_symbols subs) + 1) v) ≡ Ok x → Holds (word array ∷ (dims_symbols subs ++ mark (assign_mark o) ∷ (value_symbols v ++ semicolon ∷ []))) (numbers_of (assign_line false xs x)) 0
assign_fits scope at array subs o v xs x h k =
    let one : Extent = record { tokens = 1; depth = 0 } in
    let d = dims_read false scope (word array ∷ []) one (row_plain (word array ∷ []) 1 (lies_more 0 (word array) [] (word_lies array) lies_none) (omega arith)) (at + 1) subs xs h in
    let w = value_fits false scope (at + 1 + length (dims_symbols subs) + 1) v x k in
    let row = row_joined (word array ∷ dims_symbols subs) (mark (assign_mark o)) (value_symbols v) (dims_behind false one xs) (at_level level.Or (val_extent false x)) (assign_lies o) d w in
    subst (λ l. Holds (word array ∷ l) (numbers_of (assign_line false xs x)) 0) (append_assoc (dims_symbols subs) (mark (assign_mark o) ∷ value_symbols v) (semicolon ∷ []))
    (line_holds 1 ((word array ∷ dims_symbols subs) ++ mark (assign_mark o) ∷ value_symbols v) semicolon (beside (dims_behind false one xs) (at_level level.Or (val_extent false x))) (record { opening = refl; closing = refl }) row)

mutual
  pub stmts_read : (scope : Scope) (at : ℕ) (ss : StmtsText false) (xs : List Stmt) → stmts_tree scope (stmts_draft at ss) ≡ Ok xs → Holds (stmts_symbols ss) (total (shapes xs)) (nest ss)
  stmts_read scope at g.no_stmts xs h = subst (λ z. Holds [] (total (shapes z)) 0) (ok_of h) holds_none
  stmts_read scope at (g.and_stmt ss s) xs h =
      let next = at + length (stmts_symbols ss) in
      let p = both_ok (stmts_tree scope (stmts_draft at ss)) _ xs h in
      let q = both_ok (stmt_tree scope (stmt_draft next s)) _ xs p.2 in
      subst (λ z. Holds (stmts_symbols ss ++ stmt_symbols s) (total (shapes z)) (max (nest ss) (nest_stmt s))) (ok_of q.2)
      (last_holds (stmts_symbols ss) (stmt_symbols s) p.0 q.0 (nest ss) (nest_stmt s) (stmts_read scope at ss p.0 p.1) (stmt_read scope next s q.0 q.1))

  stmt_read : (scope : Scope) (at : ℕ) (s : StmtText false) (x : Stmt) → stmt_tree scope (stmt_draft at s) ≡ Ok x → Holds (stmt_symbols s) (numbers_of (stmt_shape false x)) (nest_stmt s)
  stmt_read scope at (g.simple s) x h = simple_read scope at s x h
  stmt_read scope at (g.block g.no_locals ss) x h =
      let q = both_ok (stmts_tree scope (stmts_draft (at + 1 + 0) ss)) _ x h in
      stmt_at _ (stmt.Block [] q.0) x _ (nest ss) (ok_of q.2) (block_here (stmt_step false) [] q.0)
      (holds_less _ _ _ (nest ss) (nest ss) (block_most (shapes q.0)) (omega arith) (braces_hold (stmts_symbols ss) (total (shapes q.0)) (nest ss) (stmts_read scope (at + 1 + 0) ss q.0 q.1)))
  stmt_read scope at (g.block (g.and_local k ls w a) ss) x h = absurd (false≢true k)

  simple_read : {dangles : Bool} (scope : Scope) (at : ℕ) (s : SimpleText false dangles) (x : Stmt) → stmt_tree scope (simple_draft at s) ≡ Ok x → Holds (simple_symbols s) (numbers_of (stmt_shape false x)) (nest_simple s)
  simple_read scope at (g.for_loop iterator low tested strict high step body) x h =
      let p = both_ok (head_tree scope (head_draft at iterator low tested strict high step)) _ x h in
      let next = at + head_length low high step in
      let q = both_ok (stmts_tree (with_number true scope iterator) (body_draft next body)) _ x p.2 in
      let r = bounds_read scope at iterator low tested strict high step p.0 p.1 in
      stmt_at _ (stmt.For iterator p.0.0 (bound_rel strict) p.0.1 q.0) x _ (nest_body body + 1) (ok_of q.2) (for_here (stmt_step false) iterator p.0.0 (bound_rel strict) p.0.1 q.0)
      (holds_less _ _ _ (nest_body body + 1) (nest_body body + 1) (for_most p.0.0 p.0.1 (shapes q.0)) (omega arith)
      (loop_holds iterator tested strict (ix_symbols low) (ix_symbols high) (body_symbols body) step (whole false p.0.0) (whole false p.0.1)
      (whole_read false scope (low_place at) low p.0.0 r.0) (whole_read false scope (high_place at low) high p.0.1 r.1) (total (shapes q.0)) (nest_body body) (body_read (with_number true scope iterator) next body q.0 q.1)))
  simple_read scope at (g.if_then c body) x h =
      let next = at + 2 + length (cond_symbols c) + 1 in
      let p = both_ok (cond_tree scope (cond_draft (at + 2) c)) _ x h in
      let q = both_ok (stmts_tree scope (body_draft next body)) _ x p.2 in
      let e = (cond_extent false p.0).extent in
      stmt_at _ (stmt.If p.0 q.0 []) x _ (nest_body body + 1) (ok_of q.2) (if_here (stmt_step false) p.0 q.0 [])
      (holds_less _ _ _ (nest_body body + 1) (nest_body body + 1) (if_most e (shapes q.0)) (omega arith)
      (test_holds (cond_symbols c) e (cond_read false scope (at + 2) c p.0 p.1) (body_symbols body) (total (shapes q.0)) (nest_body body) (body_read scope next body q.0 q.1)))
  simple_read scope at (g.if_else c body other) x h =
      let next = at + 2 + length (cond_symbols c) + 1 in
      let last = next + length (body_symbols body) + 1 in
      let height = max (nest_body body) (nest_body other) in
      let p = both_ok (cond_tree scope (cond_draft (at + 2) c)) _ x h in
      let q = both_ok (stmts_tree scope (body_draft next body)) _ x p.2 in
      let r = both_ok (stmts_tree scope (body_draft last other)) _ x q.2 in
      let e = (cond_extent false p.0).extent in
      let bs = body_symbols body ++ word (codes "else") ∷ body_symbols other in
      let b = joined (total (shapes q.0)) (else_bound (total (shapes r.0))) in
      stmt_at _ (stmt.If p.0 q.0 r.0) x _ (height + 1) (ok_of r.2) (if_here (stmt_step false) p.0 q.0 r.0)
      (holds_less _ _ (test_bound e b) (height + 1) (height + 1) (other_most e (shapes q.0) (shapes r.0)) (omega arith)
      (test_holds (cond_symbols c) e (cond_read false scope (at + 2) c p.0 p.1) bs b height
      (branches_hold (body_symbols body) (body_symbols other) (total (shapes q.0)) (total (shapes r.0)) (nest_body body) (nest_body other) (body_read scope next body q.0 q.1) (body_read scope last other r.0 r.1))))
  simple_read scope at (g.assign array subs o v) x h =
      let p = both_ok (array_named scope at array true (length (dims_draft (at + 1) subs))) _ x h in
      let q = both_ok (each (ix_tree scope) (dims_draft (at + 1) subs)) _ x p.2 in
      let r = both_ok (value_tree scope (value_draft (at + 1 + length (dims_symbols subs) + 1) v)) _ x q.2 in
      stmt_at _ (stmt.Assign o p.0 q.0 r.0) x _ 0 (ok_of r.2) refl (assign_fits scope at array subs o v q.0 r.0 q.1 r.1)

  body_read : {dangles : Bool} (scope : Scope) (at : ℕ) (b : BodyText false dangles) (xs : List Stmt) → stmts_tree scope (body_draft at b) ≡ Ok xs → Holds (body_symbols b) (total (shapes xs)) (nest_body b)
  body_read scope at (g.braces ss) xs h = body_in_braces (stmts_symbols ss) (total (shapes xs)) (nest ss) (stmts_read scope (at + 1) ss xs h)
  body_read scope at (g.bare s) xs h =
      let q = both_ok (stmt_tree scope (simple_draft at s)) _ xs h in
      subst (λ z. Holds (simple_symbols s) (total (shapes z)) (nest_simple s)) (ok_of q.2) (one_holds (simple_symbols s) q.0 (nest_simple s) (simple_read scope at s q.0 q.1))
