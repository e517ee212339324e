-- Printed statements have the tokens, runs, brackets and items that are counted by the tree.
use Rattle.std.proofs.Common.{◌≡◌, ℕ, zero, suc, ◌+◌, ◌&&◌, ◌||◌, Bool, true, false, not, max, List, [], ◌∷◌, ◌++◌, length, map, codes, Option, None, Some, refl, sym, ap, subst, ◌∙◌, arith, append_assoc, length-append, unwrap_or, slice_get}
use Rattle.std.proofs.lemmas.Bool.{and_parts}
use Rattle.affc_lex.specs.Bytes.{same}
use Rattle.affc_lex.specs.Pieces.{is_word}
use Rattle.affc_ast.specs.declared.tree.ArrayId.{ArrayId}
use Rattle.affc_ast.specs.declared.tree.Op.{Op}
use Rattle.affc_ast.specs.declared.tree.Op.TheVariants as op
use Rattle.affc_ast.specs.declared.tree.Rel.{Rel}
use Rattle.affc_ast.specs.declared.tree.Ix.{Ix}
use Rattle.affc_ast.specs.declared.tree.Cond.{Cond}
use Rattle.affc_ast.specs.declared.tree.Local.{Local}
use Rattle.affc_ast.specs.declared.tree.Val.{Val}
use Rattle.affc_ast.specs.declared.tree.Stmt.{Stmt}
use Rattle.affc_ast.specs.declared.tree.Stmt.TheVariants as stmt
use Rattle.affc_grammar.specs.Grammar.{Name, Symbol, word, mark, bound_mark, assign_mark, LocalsText, no_locals, and_local, StmtsText, no_stmts, and_stmt, StmtText, simple, block, for_loop, if_then, if_else, braces, then_up, no_dims, ix_symbols, dims_symbols, cond_symbols, value_symbols, locals_symbols, stmts_symbols, stmt_symbols}
use Rattle.affc_grammar.specs.Limits.{count_run, count_open, count_item, is_separator, is_item}
use Rattle.affc_grammar.specs.Printed as printed
use Rattle.affc_grammar.specs.Printed.{Names, array_name, and_number, ix_text, dims_text, cond_text, value_text, is_less, local_text, locals_text, stmts_text, stmt_text}
use Rattle.affc_cprint.specs.Statements.{with_locals}
use Rattle.affc_cprint.specs.Forms.{is_none}
use Rattle.affc_wellnamed.specs.Known as known
use Rattle.affc_wellnamed.specs.Known.{Known, and_iterator, and_locals, is_refused, is_new, is_bound, ix_known, ixs_known, cond_known, value_known, takes, local_known, locals_known, for_known, block_known, stmt_known, stmts_known}
use Rattle.affc_wellnamed.specs.declared.shape.Extent.{Extent}
use Rattle.affc_wellnamed.specs.declared.shape.Shape.{Shape}
use Rattle.affc_wellnamed.specs.Shape as spec
use Rattle.affc_wellnamed.specs.Shape.{saturated, larger, nothing, whole, dims_behind, cond_extent, at_level, val_extent, both, line, deeper, worded, closed, all_behind, locals_behind, for_head, if_head, else_head, assign_line, block_head, stmt_shape, stmts_behind}
use Rattle.affc_cprint.specs.declared.brackets.Level.TheVariants as level
use Rattle.affc_ast.proofs.Steps.{for_here, if_here, block_here}
use Rattle.affc_cprint.proofs.Chains.{locals_names}
use Rattle.affc_cprint.proofs.Spelled.{off, not_true, never}
use Rattle.affc_cprint.proofs.Sees.{same_is}
use Rattle.affc_cprint.proofs.ReadBackValues.{Each}
use Rattle.affc_wellnamed.proofs.Induction.{every_stmt}
use Rattle.affc_wellnamed.proofs.Counts.{Adds, Rises, Runs, adds_both, rises_both, runs_both, none_added, none_risen, no_runs, count_is, run_ends, NoBracket, rises_one, rises_more, rises_within, items_more, items_one, run_more, IsPlain, Row, row_both, row_more}
use Rattle.affc_wellnamed.proofs.ShapeParts.{Spans, AreQuiet, larger_is, spans_one as one_word, plain_word, ix_spans, dims_span, cond_spans, val_spans}

pub record Numbers : Type 0 where
  pub tokens : ℕ
  pub run : ℕ
  pub depth : ℕ
  pub items : ℕ

abbrev pub joined : Numbers → Numbers → Numbers
joined a b = record { tokens = a.tokens + b.tokens; run = max a.run b.run; depth = max a.depth b.depth; items = a.items + b.items }

pub record Fits (s : Shape) (n : Numbers) : Type 0 where
  pub tokens : s.tokens ≡ saturated n.tokens
  pub run : s.run ≡ saturated n.run
  pub depth : s.depth ≡ saturated n.depth
  pub items : s.items ≡ saturated n.items

pub record Counted (ss : List Symbol) (n : Numbers) : Type 0 where
  pub token : length ss ≡ n.tokens
  pub run : Runs n.run ss
  pub brackets : Rises count_open n.depth ss
  pub item : Adds count_item n.items ss

abbrev pub none : Numbers
none = record { tokens = 0; run = 0; depth = 0; items = 0 }

pub nothing_counted : Counted [] none
nothing_counted = record { token = refl; run = no_runs; brackets = none_risen count_open; item = none_added count_item }

pub counted_both : (xs ys : List Symbol) (m n : Numbers) → Counted xs m → Counted ys n → Counted (xs ++ ys) (joined m n)
counted_both xs ys m n p q = record {
  token = let l = length-append xs ys in let a = p.token in let b = q.token in omega (arith, l, a, b);
  run = runs_both m.run n.run xs ys p.run q.run;
  brackets = rises_both count_open m.depth n.depth xs ys p.brackets q.brackets;
  item = adds_both count_item m.items n.items xs ys p.item q.item;
}

pub fits_both : (a b : Shape) (m n : Numbers) → Fits a m → Fits b n → Fits (both a b) (joined m n)
fits_both a b m n p q =
    let t = p.tokens in let u = q.tokens in let i = p.items in let j = q.items in
    let r = p.run in let s = q.run in let d = p.depth in let e = q.depth in
    let x = larger_is a.run b.run in let y = larger_is a.depth b.depth in
    record { tokens = omega (arith, t, u); run = omega (arith, r, s, x); depth = omega (arith, d, e, y); items = omega (arith, i, j) }

abbrev pub line_of : (more count deep : ℕ) → Numbers
line_of more count deep = record { tokens = count + more + 1; run = count + more; depth = deep; items = 0 }

pub fits_line : (more : ℕ) (e : Extent) (count deep : ℕ) → e.tokens ≡ saturated count → e.depth ≡ saturated deep → Fits (line more e) (line_of more count deep)
fits_line more e count deep t d = record { tokens = omega (arith, t); run = omega (arith, t); depth = d; items = refl }

abbrev pub closed_of : Numbers → Numbers
closed_of n = record { tokens = n.tokens + 1; run = n.run; depth = n.depth + 1; items = n.items }

pub fits_closed : (a : Shape) (n : Numbers) → Fits a n → Fits (closed a) (closed_of n)
fits_closed a n p =
    let t = p.tokens in let r = p.run in let d = p.depth in let i = p.items in
    let x = larger_is a.run (line 0 nothing).run in let y = larger_is a.depth (line 0 nothing).depth in
    record { tokens = omega (arith, t); run = omega (arith, r, x); depth = omega (arith, d, y); items = omega (arith, i) }

abbrev pub worded_of : Numbers → Numbers
worded_of n = record { tokens = n.tokens; run = n.run; depth = n.depth; items = n.items + 1 }

pub fits_worded : (a : Shape) (n : Numbers) → Fits a n → Fits (worded a) (worded_of n)
fits_worded a n p = let i = p.items in record { tokens = p.tokens; run = p.run; depth = p.depth; items = omega (arith, i) }

-- tokens whose shape is counted so
pub record Shapes (ss : List Symbol) (s : Shape) : Type 0 where
  pub numbers : Numbers
  pub fits : Fits s numbers
  pub counted : Counted ss numbers

-- ---- Names

for_kept : (prelude it : Bool) → is_refused prelude it (codes "for") ≡ true
for_kept true true = refl
for_kept true false = refl
for_kept false true = refl
for_kept false false = refl

if_kept : (prelude it : Bool) → is_refused prelude it (codes "if") ≡ true
if_kept true true = refl
if_kept true false = refl
if_kept false true = refl
if_kept false false = refl

neither : (a b : Bool) → a ≡ false → b ≡ false → (a || b) ≡ false
neither a b p q = ap (λ z. z || b) p ∙ q

-- a name that isn't refused is no word `for` or `if`
pub no_item : (prelude it : Bool) (w : Name) → is_refused prelude it w ≡ false → is_item (word w) ≡ false
no_item prelude it w h = neither (same w (codes "for")) (same w (codes "if"))
    (not_true (same w (codes "for")) (λ e. never (ap (is_refused prelude it) (same_is w (codes "for") e) ∙ for_kept prelude it) h))
    (not_true (same w (codes "if")) (λ e. never (ap (is_refused prelude it) (same_is w (codes "if") e) ∙ if_kept prelude it) h))

pub new_no_item : (k : Known) (it : Bool) (w : Name) → is_new k it w ≡ true → is_item (word w) ≡ false
new_no_item k it w h =
    let p = and_parts (is_word w && not (is_refused k.prelude it w)) (not (k.is_taken w)) h in
    let q = and_parts (is_word w) (not (is_refused k.prelude it w)) p.0 in
    no_item k.prelude it w (off (is_refused k.prelude it w) q.1)

-- ---- Marks

word_bracket : (w : Name) → NoBracket (word w)
word_bracket w = record { opening = refl; closing = refl }

abbrev semicolon : Symbol
semicolon = mark (codes ";")

bound_bracket : (strict : Bool) → NoBracket (mark (bound_mark strict))
bound_bracket true = record { opening = refl; closing = refl }
bound_bracket false = record { opening = refl; closing = refl }

bound_run : (strict : Bool) → is_separator (mark (bound_mark strict)) ≡ false
bound_run true = refl
bound_run false = refl

bound_item : (strict : Bool) → is_item (mark (bound_mark strict)) ≡ false
bound_item true = refl
bound_item false = refl

-- ---- Loops

module _ (iter : Name) (strict : Bool) (plain : is_item (word iter) ≡ false) (ls hs bs : List Symbol) (l ld h hd : ℕ) (low : Row l ld ls) (high : Row h hd hs) (b : Numbers) (body : Counted bs b) where
  abbrev loop_head : Numbers
  loop_head = joined (joined (line_of 5 l ld) (line_of 2 h hd)) (line_of 3 0 0)

  abbrev loop_of : Numbers
  loop_of = worded_of (closed_of (joined loop_head b))

  abbrev loop_tail : List Symbol
  loop_tail = mark (codes "{") ∷ (bs ++ mark (codes "}") ∷ [])

  abbrev loop_end : List Symbol
  loop_end = word iter ∷ mark (codes "++") ∷ mark (codes ")") ∷ loop_tail

  abbrev loop_mid : List Symbol
  loop_mid = word iter ∷ mark (bound_mark strict) ∷ (hs ++ semicolon ∷ loop_end)

  abbrev loop_symbols : List Symbol
  loop_symbols = word (codes "for") ∷ mark (codes "(") ∷ word (codes "int64_t") ∷ word iter ∷ mark (codes "=") ∷ (ls ++ semicolon ∷ loop_mid)

  loop_token : length loop_symbols ≡ loop_of.tokens
  loop_token =
      let a = length-append ls (semicolon ∷ loop_mid) in
      let c = length-append hs (semicolon ∷ loop_end) in
      let d = length-append bs (mark (codes "}") ∷ []) in
      let e = count_is l ls low.token in
      let f = count_is h hs high.token in
      let g = body.token in
      omega (arith, a, c, d, e, f, g)

  abbrev first_run : List Symbol
  first_run = word (codes "for") ∷ mark (codes "(") ∷ word (codes "int64_t") ∷ word iter ∷ mark (codes "=") ∷ ls

  abbrev second_run : List Symbol
  second_run = word iter ∷ mark (bound_mark strict) ∷ hs

  abbrev third_run : List Symbol
  third_run = word iter ∷ mark (codes "++") ∷ mark (codes ")") ∷ []

  loop_grouped : (first_run ++ semicolon ∷ []) ++ ((second_run ++ semicolon ∷ []) ++ ((third_run ++ mark (codes "{") ∷ []) ++ (bs ++ mark (codes "}") ∷ []))) ≡ loop_symbols
  loop_grouped =
      ap (λ z. word (codes "for") ∷ mark (codes "(") ∷ word (codes "int64_t") ∷ word iter ∷ mark (codes "=") ∷ z)
      (append_assoc ls (semicolon ∷ []) ((second_run ++ semicolon ∷ []) ++ loop_end)
      ∙ ap (λ z. ls ++ semicolon ∷ word iter ∷ mark (bound_mark strict) ∷ z) (append_assoc hs (semicolon ∷ []) loop_end))

  loop_run : Runs loop_of.run loop_symbols
  loop_run =
      let one = run_ends (1 + (1 + (1 + (1 + (1 + l))))) first_run semicolon refl
      (run_more _ (word (codes "for")) _ refl (run_more _ (mark (codes "(")) _ refl (run_more _ (word (codes "int64_t")) _ refl (run_more _ (word iter) _ refl (run_more _ (mark (codes "=")) ls refl low.run))))) in
      let two = run_ends (1 + (1 + h)) second_run semicolon refl (run_more _ (word iter) _ refl (run_more _ (mark (bound_mark strict)) hs (bound_run strict) high.run)) in
      let three = run_ends (1 + (1 + (1 + 0))) third_run (mark (codes "{")) refl (run_more _ (word iter) _ refl (run_more _ (mark (codes "++")) _ refl (run_more _ (mark (codes ")")) [] refl (none_added count_run)))) in
      let last = runs_both b.run 0 bs (mark (codes "}") ∷ []) body.run (run_ends 0 [] (mark (codes "}")) refl (none_added count_run)) in
      let all = runs_both _ _ (first_run ++ semicolon ∷ []) _ one (runs_both _ _ (second_run ++ semicolon ∷ []) _ two (runs_both _ _ (third_run ++ mark (codes "{") ∷ []) _ three last)) in
      let size : max (1 + (1 + (1 + (1 + (1 + l))))) (max (1 + (1 + h)) (max (1 + (1 + (1 + 0))) (max b.run 0))) ≡ loop_of.run = omega arith in
      subst (λ n. Runs n loop_symbols) size (subst (Runs (max (1 + (1 + (1 + (1 + (1 + l))))) (max (1 + (1 + h)) (max (1 + (1 + (1 + 0))) (max b.run 0))))) loop_grouped all)

  abbrev between_brackets : List Symbol
  between_brackets = word (codes "int64_t") ∷ word iter ∷ mark (codes "=") ∷ (ls ++ semicolon ∷ word iter ∷ mark (bound_mark strict) ∷ (hs ++ semicolon ∷ word iter ∷ mark (codes "++") ∷ []))

  loop_bracketed : word (codes "for") ∷ ((mark (codes "(") ∷ (between_brackets ++ mark (codes ")") ∷ [])) ++ loop_tail) ≡ loop_symbols
  loop_bracketed = ap (λ z. word (codes "for") ∷ mark (codes "(") ∷ word (codes "int64_t") ∷ word iter ∷ mark (codes "=") ∷ z)
      (ap (λ z. z ++ loop_tail) (append_assoc ls (semicolon ∷ word iter ∷ mark (bound_mark strict) ∷ (hs ++ semicolon ∷ word iter ∷ mark (codes "++") ∷ [])) (mark (codes ")") ∷ []))
      ∙ append_assoc ls (semicolon ∷ word iter ∷ mark (bound_mark strict) ∷ ((hs ++ semicolon ∷ word iter ∷ mark (codes "++") ∷ []) ++ mark (codes ")") ∷ [])) loop_tail
      ∙ ap (λ z. ls ++ semicolon ∷ word iter ∷ mark (bound_mark strict) ∷ z) (ap (λ z. z ++ loop_tail) (append_assoc hs (semicolon ∷ word iter ∷ mark (codes "++") ∷ []) (mark (codes ")") ∷ []))
      ∙ append_assoc hs (semicolon ∷ word iter ∷ mark (codes "++") ∷ mark (codes ")") ∷ []) loop_tail))

  loop_brackets : Rises count_open loop_of.depth loop_symbols
  loop_brackets =
      let inner = rises_more _ (word (codes "int64_t")) _ (word_bracket (codes "int64_t")) (rises_more _ (word iter) _ (word_bracket iter) (rises_more _ (mark (codes "=")) _ (record { opening = refl; closing = refl })
      (rises_both count_open ld _ ls _ low.brackets (rises_more _ semicolon _ (record { opening = refl; closing = refl }) (rises_more _ (word iter) _ (word_bracket iter) (rises_more _ (mark (bound_mark strict)) _ (bound_bracket strict)
      (rises_both count_open hd _ hs _ high.brackets (rises_more _ semicolon _ (record { opening = refl; closing = refl }) (rises_more _ (word iter) _ (word_bracket iter) (rises_more 0 (mark (codes "++")) [] (record { opening = refl; closing = refl }) (none_risen count_open))))))))))) in
      let round = rises_within _ (mark (codes "(")) (mark (codes ")")) between_brackets refl refl refl inner in
      let curly = rises_within b.depth (mark (codes "{")) (mark (codes "}")) bs refl refl refl body.brackets in
      let all = rises_more _ (word (codes "for")) _ (word_bracket (codes "for")) (rises_both count_open _ _ (mark (codes "(") ∷ (between_brackets ++ mark (codes ")") ∷ [])) loop_tail round curly) in
      let size : max (max ld (max hd 0) + 1) (b.depth + 1) ≡ loop_of.depth = omega arith in
      subst (λ n. Rises count_open n loop_symbols) size (subst (Rises count_open (max (max ld (max hd 0) + 1) (b.depth + 1))) loop_bracketed all)

  loop_item : Adds count_item loop_of.items loop_symbols
  loop_item =
      let tail = items_more _ (mark (codes "{")) _ refl (adds_both count_item b.items 0 bs (mark (codes "}") ∷ []) body.item (items_more 0 (mark (codes "}")) [] refl (none_added count_item))) in
      let ending = items_more _ (word iter) _ plain (items_more _ (mark (codes "++")) _ refl (items_more _ (mark (codes ")")) _ refl tail)) in
      let mid = items_more _ (word iter) _ plain (items_more _ (mark (bound_mark strict)) _ (bound_item strict) (adds_both count_item 0 _ hs _ high.item (items_more _ semicolon _ refl ending))) in
      let all = items_one _ (word (codes "for")) _ refl (items_more _ (mark (codes "(")) _ refl (items_more _ (word (codes "int64_t")) _ refl (items_more _ (word iter) _ plain (items_more _ (mark (codes "=")) _ refl (adds_both count_item 0 _ ls _ low.item (items_more _ semicolon _ refl mid)))))) in
      let size : 0 + (0 + (b.items + 0)) + 1 ≡ loop_of.items = omega arith in
      subst (λ n. Adds count_item n loop_symbols) size all

  pub loop_counted : Counted loop_symbols loop_of
  loop_counted = record { token = loop_token; run = loop_run; brackets = loop_brackets; item = loop_item }

-- ---- Branches

abbrev closing : Symbol
closing = mark (codes "}")

abbrev opening : Symbol
opening = mark (codes "{")

-- what stands behind the brace that opens a body
record Branches (rest : List Symbol) (n : Numbers) : Type 0 where
  token : length rest ≡ n.tokens
  run : Runs n.run rest
  brackets : Rises count_open n.depth (opening ∷ rest)
  item : Adds count_item n.items rest

module _ (bs : List Symbol) (b : Numbers) (body : Counted bs b) where
  closing_run : Runs b.run (bs ++ closing ∷ [])
  closing_run =
      let all = runs_both b.run 0 bs (closing ∷ []) body.run (run_ends 0 [] closing refl (none_added count_run)) in
      let size : max b.run 0 ≡ b.run = omega arith in
      subst (λ n. Runs n (bs ++ closing ∷ [])) size all

  closing_item : Adds count_item b.items (bs ++ closing ∷ [])
  closing_item =
      let all = adds_both count_item b.items 0 bs (closing ∷ []) body.item (items_more 0 closing [] refl (none_added count_item)) in
      let size : b.items + 0 ≡ b.items = omega arith in
      subst (λ n. Adds count_item n (bs ++ closing ∷ [])) size all

  braces_rise : Rises count_open (b.depth + 1) (opening ∷ (bs ++ closing ∷ []))
  braces_rise = rises_within b.depth opening closing bs refl refl refl body.brackets

  one_branch : Branches (bs ++ closing ∷ []) (closed_of b)
  one_branch = record {
    token = let d = length-append bs (closing ∷ []) in let g = body.token in omega (arith, d, g);
    run = closing_run;
    brackets = braces_rise;
    item = closing_item;
  }

-- a brace, `else` and a brace
abbrev else_of : Numbers
else_of = joined (line_of 0 0 0) (line_of 1 0 0)

abbrev else_word : Symbol
else_word = word (codes "else")

module _ (bs os : List Symbol) (b o : Numbers) (body : Counted bs b) (other : Counted os o) where
  abbrev else_symbols : List Symbol
  else_symbols = else_word ∷ opening ∷ (os ++ closing ∷ [])

  two_branches : Branches ((bs ++ closing ∷ []) ++ else_symbols) (closed_of (joined (joined b else_of) o))
  two_branches = record {
    token =
        let a = length-append (bs ++ closing ∷ []) else_symbols in
        let c = length-append bs (closing ∷ []) in
        let d = length-append os (closing ∷ []) in
        let e = body.token in
        let g = other.token in
        omega (arith, a, c, d, e, g);
    run =
        let one = closing_run bs b body in
        let mid = run_ends (1 + 0) (else_word ∷ []) opening refl (run_more 0 else_word [] refl (none_added count_run)) in
        let last = closing_run os o other in
        let all = runs_both b.run _ (bs ++ closing ∷ []) else_symbols one (runs_both (1 + 0) o.run (else_word ∷ opening ∷ []) (os ++ closing ∷ []) mid last) in
        let size : max b.run (max (1 + 0) o.run) ≡ max (max b.run (max 0 1)) o.run = omega arith in
        subst (λ n. Runs n ((bs ++ closing ∷ []) ++ else_symbols)) size all;
    brackets =
        let one = braces_rise bs b body in
        let two = rises_more (o.depth + 1) else_word (opening ∷ (os ++ closing ∷ [])) (word_bracket (codes "else")) (braces_rise os o other) in
        let all = rises_both count_open (b.depth + 1) (o.depth + 1) (opening ∷ (bs ++ closing ∷ [])) else_symbols one two in
        let size : max (b.depth + 1) (o.depth + 1) ≡ max (max b.depth (max 0 0)) o.depth + 1 = omega arith in
        subst (λ n. Rises count_open n ((opening ∷ (bs ++ closing ∷ [])) ++ else_symbols)) size all;
    item =
        let two = items_more o.items else_word (opening ∷ (os ++ closing ∷ [])) refl (items_more o.items opening (os ++ closing ∷ []) refl (closing_item os o other)) in
        let all = adds_both count_item b.items o.items (bs ++ closing ∷ []) else_symbols (closing_item bs b body) two in
        let size : b.items + o.items ≡ b.items + (0 + 0) + o.items = omega arith in
        subst (λ n. Adds count_item n ((bs ++ closing ∷ []) ++ else_symbols)) size all;
  }

-- ---- Tests

same_numbers : (m n : Numbers) → m.tokens ≡ n.tokens → m.run ≡ n.run → m.depth ≡ n.depth → m.items ≡ n.items → m ≡ n
same_numbers m n t r d i = λ j. record { tokens = t j; run = r j; depth = d j; items = i j }

module _ (cs rest : List Symbol) (c cd : ℕ) (conds : Row c cd cs) (b : Numbers) (branches : Branches rest b) where
  abbrev test_of : Numbers
  test_of = record { tokens = c + 3 + 1 + b.tokens; run = max (c + 3) b.run; depth = max (cd + 1) b.depth; items = b.items + 1 }

  abbrev test_symbols : List Symbol
  test_symbols = word (codes "if") ∷ mark (codes "(") ∷ (cs ++ mark (codes ")") ∷ opening ∷ rest)

  test_token : length test_symbols ≡ test_of.tokens
  test_token =
      let a = length-append cs (mark (codes ")") ∷ opening ∷ rest) in
      let e = count_is c cs conds.token in
      let g = branches.token in
      omega (arith, a, e, g)

  abbrev test_run_symbols : List Symbol
  test_run_symbols = word (codes "if") ∷ mark (codes "(") ∷ (cs ++ mark (codes ")") ∷ [])

  test_grouped : (test_run_symbols ++ opening ∷ []) ++ rest ≡ test_symbols
  test_grouped = ap (λ z. word (codes "if") ∷ mark (codes "(") ∷ z)
      (ap (λ z. z ++ rest) (append_assoc cs (mark (codes ")") ∷ []) (opening ∷ [])) ∙ append_assoc cs (mark (codes ")") ∷ opening ∷ []) rest)

  test_run : Runs test_of.run test_symbols
  test_run =
      let one = run_ends (1 + (1 + (c + (1 + 0)))) test_run_symbols opening refl
      (run_more _ (word (codes "if")) _ refl (run_more _ (mark (codes "(")) _ refl (adds_both count_run c (1 + 0) cs (mark (codes ")") ∷ []) conds.run (run_more 0 (mark (codes ")")) [] refl (none_added count_run))))) in
      let all = runs_both (1 + (1 + (c + (1 + 0)))) b.run (test_run_symbols ++ opening ∷ []) rest one branches.run in
      let size : max (1 + (1 + (c + (1 + 0)))) b.run ≡ test_of.run = omega arith in
      subst (λ n. Runs n test_symbols) size (subst (Runs (max (1 + (1 + (c + (1 + 0)))) b.run)) test_grouped all)

  test_bracketed : word (codes "if") ∷ ((mark (codes "(") ∷ (cs ++ mark (codes ")") ∷ [])) ++ (opening ∷ rest)) ≡ test_symbols
  test_bracketed = ap (λ z. word (codes "if") ∷ mark (codes "(") ∷ z) (append_assoc cs (mark (codes ")") ∷ []) (opening ∷ rest))

  test_brackets : Rises count_open test_of.depth test_symbols
  test_brackets =
      let round = rises_within cd (mark (codes "(")) (mark (codes ")")) cs refl refl refl conds.brackets in
      let all = rises_more _ (word (codes "if")) _ (word_bracket (codes "if")) (rises_both count_open (cd + 1) b.depth (mark (codes "(") ∷ (cs ++ mark (codes ")") ∷ [])) (opening ∷ rest) round branches.brackets) in
      subst (Rises count_open test_of.depth) test_bracketed all

  test_item : Adds count_item test_of.items test_symbols
  test_item =
      let tail = items_more b.items opening rest refl branches.item in
      let all = items_one _ (word (codes "if")) _ refl (items_more _ (mark (codes "(")) _ refl (adds_both count_item 0 b.items cs _ conds.item (items_more b.items (mark (codes ")")) (opening ∷ rest) refl tail))) in
      let size : 0 + b.items + 1 ≡ test_of.items = omega arith in
      subst (λ n. Adds count_item n test_symbols) size all

  test_counted : Counted test_symbols test_of
  test_counted = record { token = test_token; run = test_run; brackets = test_brackets; item = test_item }

module _ (cs bs : List Symbol) (c cd : ℕ) (conds : Row c cd cs) (b : Numbers) (body : Counted bs b) where
  then_counted : Counted (test_symbols cs (bs ++ closing ∷ []) c cd conds (closed_of b) (one_branch bs b body)) (worded_of (closed_of (joined (line_of 3 c cd) b)))
  then_counted =
      let t : c + 3 + 1 + (b.tokens + 1) ≡ c + 3 + 1 + b.tokens + 1 = omega arith in
      let d : max (cd + 1) (b.depth + 1) ≡ max cd b.depth + 1 = omega arith in
      let i : b.items + 1 ≡ 0 + b.items + 1 = omega arith in
      subst (Counted (test_symbols cs (bs ++ closing ∷ []) c cd conds (closed_of b) (one_branch bs b body)))
      (same_numbers (test_of cs (bs ++ closing ∷ []) c cd conds (closed_of b) (one_branch bs b body)) (worded_of (closed_of (joined (line_of 3 c cd) b))) t refl d i)
      (test_counted cs (bs ++ closing ∷ []) c cd conds (closed_of b) (one_branch bs b body))

module _ (cs bs os : List Symbol) (c cd : ℕ) (conds : Row c cd cs) (b o : Numbers) (body : Counted bs b) (other : Counted os o) where
  abbrev both_branches : Branches ((bs ++ closing ∷ []) ++ else_symbols bs os b o body other) (closed_of (joined (joined b else_of) o))
  both_branches = two_branches bs os b o body other

  abbrev either_symbols : List Symbol
  either_symbols = word (codes "if") ∷ mark (codes "(") ∷ (cs ++ mark (codes ")") ∷ opening ∷ ((bs ++ closing ∷ []) ++ else_word ∷ opening ∷ (os ++ closing ∷ [])))

  else_counted : Counted either_symbols (worded_of (closed_of (joined (joined (joined (line_of 3 c cd) b) else_of) o)))
  else_counted =
      let n = closed_of (joined (joined b else_of) o) in
      let t : c + 3 + 1 + (b.tokens + (0 + 0 + 1 + (0 + 1 + 1)) + o.tokens + 1) ≡ c + 3 + 1 + b.tokens + (0 + 0 + 1 + (0 + 1 + 1)) + o.tokens + 1 = omega arith in
      let r : max (c + 3) (max (max b.run (max 0 1)) o.run) ≡ max (max (max (c + 3) b.run) (max 0 1)) o.run = omega arith in
      let d : max (cd + 1) (max (max b.depth (max 0 0)) o.depth + 1) ≡ max (max (max cd b.depth) (max 0 0)) o.depth + 1 = omega arith in
      let i : b.items + (0 + 0) + o.items + 1 ≡ 0 + b.items + (0 + 0) + o.items + 1 = omega arith in
      subst (Counted either_symbols)
      (same_numbers (test_of cs ((bs ++ closing ∷ []) ++ else_symbols bs os b o body other) c cd conds n both_branches) (worded_of (closed_of (joined (joined (joined (line_of 3 c cd) b) else_of) o))) t r d i)
      (test_counted cs ((bs ++ closing ∷ []) ++ else_symbols bs os b o body other) c cd conds n both_branches)

-- ---- Lines: tokens in a row, and one of `;` and line ends

pub line_counted : (ss : List Symbol) (s : Symbol) (more count deep : ℕ) → is_separator s ≡ true → NoBracket s → is_item s ≡ false → Row (count + more) deep ss → Counted (ss ++ s ∷ []) (line_of more count deep)
line_counted ss s more count deep e n i r =
    let deeper_so : max deep 0 ≡ deep = omega arith in
    record {
      token = let a = length-append ss (s ∷ []) in let c = count_is (count + more) ss r.token in omega (arith, a, c);
      run = run_ends (count + more) ss s e r.run;
      brackets = subst (λ m. Rises count_open m (ss ++ s ∷ [])) deeper_so (rises_both count_open deep 0 ss (s ∷ []) r.brackets (rises_one s n));
      item = adds_both count_item 0 0 ss (s ∷ []) r.item (items_more 0 s [] i (none_added count_item));
    }

-- ---- Blocks

module _ (hs bs : List Symbol) (h b : Numbers) (head : Counted hs h) (body : Counted bs b) where
  abbrev block_of : Numbers
  block_of = closed_of (joined (joined (line_of 0 0 0) h) b)

  abbrev block_symbols : List Symbol
  block_symbols = mark (codes "{") ∷ (hs ++ (bs ++ mark (codes "}") ∷ []))

  block_token : length block_symbols ≡ block_of.tokens
  block_token =
      let a = length-append hs (bs ++ mark (codes "}") ∷ []) in
      let d = length-append bs (mark (codes "}") ∷ []) in
      let e = head.token in
      let g = body.token in
      omega (arith, a, d, e, g)

  block_run : Runs block_of.run block_symbols
  block_run =
      let one = run_ends 0 [] (mark (codes "{")) refl (none_added count_run) in
      let last = runs_both b.run 0 bs (mark (codes "}") ∷ []) body.run (run_ends 0 [] (mark (codes "}")) refl (none_added count_run)) in
      let all = runs_both 0 _ (mark (codes "{") ∷ []) _ one (runs_both h.run _ hs _ head.run last) in
      let size : max 0 (max h.run (max b.run 0)) ≡ block_of.run = omega arith in
      subst (λ n. Runs n block_symbols) size all

  block_brackets : Rises count_open block_of.depth block_symbols
  block_brackets =
      let all = rises_within _ (mark (codes "{")) (mark (codes "}")) (hs ++ bs) refl refl refl (rises_both count_open h.depth b.depth hs bs head.brackets body.brackets) in
      let size : max h.depth b.depth + 1 ≡ block_of.depth = omega arith in
      subst (λ n. Rises count_open n block_symbols) size (subst (Rises count_open (max h.depth b.depth + 1)) (ap (λ z. mark (codes "{") ∷ z) (append_assoc hs bs (mark (codes "}") ∷ []))) all)

  block_item : Adds count_item block_of.items block_symbols
  block_item =
      let all = items_more _ (mark (codes "{")) _ refl (adds_both count_item h.items _ hs _ head.item (adds_both count_item b.items 0 bs (mark (codes "}") ∷ []) body.item (items_more 0 (mark (codes "}")) [] refl (none_added count_item)))) in
      let size : h.items + (b.items + 0) ≡ block_of.items = omega arith in
      subst (λ n. Adds count_item n block_symbols) size all

  pub block_counted : Counted block_symbols block_of
  block_counted = record { token = block_token; run = block_run; brackets = block_brackets; item = block_item }

-- ---- Names that are in sight

pub quiet_end : (names : Names) (w : Name) → AreQuiet names → is_item (word w) ≡ false → AreQuiet (and_number names w)
quiet_end names w q h = record { numbers = λ id. of names.numbers id.0 (λ i. q.numbers (record { 0 = i })); arrays = q.arrays }
  where
    of : (xs : List Name) (i : ℕ) → ((j : ℕ) → is_item (word (unwrap_or (slice_get xs j) [])) ≡ false) → is_item (word (unwrap_or (slice_get (xs ++ w ∷ []) i) [])) ≡ false
    of [] zero f = h
    of [] (suc i) f = refl
    of (x ∷ xs) zero f = f zero
    of (x ∷ xs) (suc i) f = of xs i (λ j. f (suc j))

-- ---- Several

joined_assoc : (a b c : Numbers) → joined (joined a b) c ≡ joined a (joined b c)
joined_assoc a b c =
    let t : a.tokens + b.tokens + c.tokens ≡ a.tokens + (b.tokens + c.tokens) = omega arith in
    let r : max (max a.run b.run) c.run ≡ max a.run (max b.run c.run) = omega arith in
    let d : max (max a.depth b.depth) c.depth ≡ max a.depth (max b.depth c.depth) = omega arith in
    let i : a.items + b.items + c.items ≡ a.items + (b.items + c.items) = omega arith in
    λ j. record { tokens = t j; run = r j; depth = d j; items = i j }

joined_none : (a : Numbers) → joined a none ≡ a
joined_none a =
    let t : a.tokens + 0 ≡ a.tokens = omega arith in
    let r : max a.run 0 ≡ a.run = omega arith in
    let d : max a.depth 0 ≡ a.depth = omega arith in
    let i : a.items + 0 ≡ a.items = omega arith in
    λ j. record { tokens = t j; run = r j; depth = d j; items = i j }

-- tokens behind others, and the shape of all
pub record Behind (ss : List Symbol) (before : Numbers) (all : Shape) : Type 0 where
  pub numbers : Numbers
  pub counted : Counted ss numbers
  pub fits : Fits all (joined before numbers)

pub none_behind : (a : Shape) (n : Numbers) → Fits a n → Behind [] n a
none_behind a n h = record { numbers = none; counted = nothing_counted; fits = subst (Fits a) (sym (joined_none n)) h }

pub one_behind : (ss ts : List Symbol) (n m : Numbers) (a b : Shape) → Behind ss n a → Counted ts m → Fits b m → Behind (ss ++ ts) n (both a b)
one_behind ss ts n m a b p c f = record {
  numbers = joined p.numbers m;
  counted = counted_both ss ts p.numbers m p.counted c;
  fits = subst (Fits (both a b)) (joined_assoc n p.numbers m) (fits_both a b (joined n p.numbers) m p.fits f);
}

pub spans_fit : (more : ℕ) (ss : List Symbol) (e : Extent) (s : Spans ss e) → Fits (line more e) (line_of more s.count s.deep)
spans_fit more ss e s = fits_line more e s.count s.deep s.tokens s.depth

-- a line with so many tokens before a part
pub part_line : (front : List Symbol) (k : ℕ) (ss : List Symbol) (e : Extent) (last : Symbol) (s : Spans ss e) → is_separator last ≡ true → NoBracket last → is_item last ≡ false → Row (k + s.count) s.deep (front ++ ss)
    → Counted ((front ++ ss) ++ last ∷ []) (line_of k s.count s.deep)
part_line front k ss e last s a b c r =
    let same : k + s.count ≡ s.count + k = omega arith in
    line_counted (front ++ ss) last k s.count s.deep a b c (subst (λ n. Row n s.deep (front ++ ss)) same r)

plain_assign : (o : Option Op) → IsPlain (mark (assign_mark o))
plain_assign None = record { separator = refl; opening = refl; closing = refl; item = refl }
plain_assign (Some op.Mul) = record { separator = refl; opening = refl; closing = refl; item = refl }
plain_assign (Some op.Add) = record { separator = refl; opening = refl; closing = refl; item = refl }
plain_assign (Some op.Sub) = record { separator = refl; opening = refl; closing = refl; item = refl }
plain_assign (Some op.And) = record { separator = refl; opening = refl; closing = refl; item = refl }
plain_assign (Some op.Xor) = record { separator = refl; opening = refl; closing = refl; item = refl }
plain_assign (Some op.Or) = record { separator = refl; opening = refl; closing = refl; item = refl }

-- ---- Locals

one_local : (names : Names) (quiet : AreQuiet names) (l : Local) → is_item (word l.name) ≡ false
    → Shapes (word (codes "const") ∷ word (codes "int64_t") ∷ word l.name ∷ mark (codes "=") ∷ (ix_symbols (ix_text true names l.value) ++ mark (codes ";") ∷ [])) (line 4 (whole true l.value))
one_local names quiet l plain =
    let s = ix_spans true names quiet l.value in
    let text = ix_symbols (ix_text true names l.value) in
    record {
      numbers = line_of 4 s.count s.deep;
      fits = spans_fit 4 text (whole true l.value) s;
      counted = part_line (word (codes "const") ∷ word (codes "int64_t") ∷ word l.name ∷ mark (codes "=") ∷ []) 4 text (whole true l.value) (mark (codes ";")) s refl (record { opening = refl; closing = refl }) refl
          (subst (λ n. Row n s.deep (word (codes "const") ∷ word (codes "int64_t") ∷ word l.name ∷ mark (codes "=") ∷ text)) (four s.count)
          (row_more _ _ (word (codes "const")) _ (plain_word (codes "const") refl) (row_more _ _ (word (codes "int64_t")) _ (plain_word (codes "int64_t") refl) (row_more _ _ (word l.name) _ (plain_word l.name plain)
          (row_more s.count s.deep (mark (codes "=")) text (record { separator = refl; opening = refl; closing = refl; item = refl }) s.row)))));
    }
  where
    four : (n : ℕ) → 1 + (1 + (1 + (1 + n))) ≡ 4 + n
    four n = omega arith

record LocalsShapes {prelude : Bool} (c : LocalsText prelude) (before : Numbers) (all : Shape) (names : Names) : Type 0 where
  here : Behind (locals_symbols c) before all
  quiet : AreQuiet names

locals_shapes : (prelude : Bool) (k : Known) (before : List Local) (names : Names) → AreQuiet names → (c : LocalsText prelude) (n : Numbers) (a : Shape) → Behind (locals_symbols c) n a → (ls : List Local) → locals_known k before ls ≡ true
    → LocalsShapes (locals_text prelude names c ls).0 n (locals_behind prelude a ls) (with_locals names ls)
locals_shapes true k before names quiet c n a b [] h = record { here = b; quiet = quiet }
locals_shapes false k before names quiet c n a b [] h = record { here = b; quiet = quiet }
locals_shapes true k before names quiet c n a b (l ∷ ls) h =
    let p = and_parts (local_known (and_locals k before) l) (locals_known k (before ++ l ∷ []) ls) h in
    let q = and_parts (is_new (and_locals k before) false l.name) (ix_known (and_locals k before) l.value) p.0 in
    let plain = new_no_item (and_locals k before) false l.name q.0 in
    let s = one_local names quiet l plain in
    locals_shapes true k (before ++ l ∷ []) (and_number names l.name) (quiet_end names l.name quiet plain) (and_local refl c l.name (ix_text true names l.value)) n (both a (line 4 (whole true l.value)))
    (one_behind (locals_symbols c) _ n s.numbers a (line 4 (whole true l.value)) b s.counted s.fits) ls p.1
locals_shapes false k before names quiet c n a b (l ∷ ls) h =
    let p = and_parts (local_known (and_locals k before) l) (locals_known k (before ++ l ∷ []) ls) h in
    let q = and_parts (is_new (and_locals k before) false l.name) (ix_known (and_locals k before) l.value) p.0 in
    let r = locals_shapes false k (before ++ l ∷ []) (and_number names l.name) (quiet_end names l.name quiet (new_no_item (and_locals k before) false l.name q.0)) c n a b ls p.1 in
    record { here = r.here; quiet = r.quiet }

-- ---- Statements

module _ (prelude : Bool) where
  abbrev Weighs : Stmt → Type 0
  Weighs s = (k : Known) (names : Names) → AreQuiet names → stmt_known s k ≡ true → Shapes (stmt_symbols (stmt_text prelude s names)) (stmt_shape prelude s)

  pub body_shapes : (k : Known) (names : Names) → AreQuiet names → (t : StmtsText prelude) (n : Numbers) (a : Shape) → Behind (stmts_symbols t) n a → (body : List Stmt) → Each Weighs body → stmts_known k body ≡ true
      → Behind (stmts_symbols (stmts_text names t (map (stmt_text prelude) body))) n (stmts_behind prelude a body)
  body_shapes k names quiet t n a b [] f h = b
  body_shapes k names quiet t n a b (s ∷ body) f h =
      let p = and_parts (stmt_known s k) (stmts_known k body) h in
      let r = f.0 k names quiet p.0 in
      body_shapes k names quiet (and_stmt t (stmt_text prelude s names)) n (both a (stmt_shape prelude s)) (one_behind (stmts_symbols t) (stmt_symbols (stmt_text prelude s names)) n r.numbers a (stmt_shape prelude s) b r.counted r.fits) body f.1 p.1

  loop_weighs : (iter : Name) (low : Ix) (rel : Rel) (high : Ix) (body : List Stmt) → Each Weighs body → Weighs (stmt.For iter low rel high body)
  loop_weighs iter low rel high body f k names quiet h =
      let whole_so : (for_known k iter low rel high && stmts_known (and_iterator k iter) body) ≡ true = ap (λ (g : Known → Bool). g k) (sym (for_here known.stmt_step iter low rel high body)) ∙ h in
      let p = and_parts (for_known k iter low rel high) (stmts_known (and_iterator k iter) body) whole_so in
      let q = and_parts (is_new k true iter) (is_bound rel && (ix_known k low && ix_known k high)) p.0 in
      let plain = new_no_item k true iter q.0 in
      let inner = and_number names iter in
      let bt = stmts_text {prelude = prelude} inner no_stmts (map (stmt_text prelude) body) in
      let s = ix_spans prelude names quiet low in
      let t = ix_spans prelude names quiet high in
      let ls = ix_symbols (ix_text prelude names low) in
      let hs = ix_symbols (ix_text prelude names high) in
      let head : Numbers = joined (joined (line_of 5 s.count s.deep) (line_of 2 t.count t.deep)) (line_of 3 0 0) in
      let fits_head : Fits (for_head prelude low high) head = fits_both (both (line 5 (whole prelude low)) (line 2 (whole prelude high))) (line 3 nothing) _ _
      (fits_both (line 5 (whole prelude low)) (line 2 (whole prelude high)) _ _ (spans_fit 5 ls (whole prelude low) s) (spans_fit 2 hs (whole prelude high) t)) (fits_line 3 nothing 0 0 refl refl) in
      let b = body_shapes (and_iterator k iter) inner (quiet_end names iter quiet plain) no_stmts head (for_head prelude low high) (none_behind (for_head prelude low high) head fits_head) body f p.1 in
      subst (λ (g : Names → StmtText prelude). Shapes (stmt_symbols (g names)) (stmt_shape prelude (stmt.For iter low rel high body))) (sym (for_here (printed.stmt_step prelude) iter low rel high body))
      (subst (Shapes (stmt_symbols {prelude = prelude} (simple (for_loop iter (ix_text prelude names low) iter (is_less rel) (ix_text prelude names high) (then_up iter) (braces bt))))) (sym (for_here (spec.stmt_step prelude) iter low rel high body)) (record {
        numbers = worded_of (closed_of (joined head b.numbers));
        fits = fits_worded (closed (stmts_behind prelude (for_head prelude low high) body)) _ (fits_closed (stmts_behind prelude (for_head prelude low high) body) _ b.fits);
        counted = loop_counted iter (is_less rel) plain ls hs (stmts_symbols bt) s.count s.deep t.count t.deep s.row t.row b.numbers b.counted;
      }))

  else_fits : Fits else_head else_of
  else_fits = fits_both (line 0 nothing) (line 1 nothing) _ _ (fits_line 0 nothing 0 0 refl refl) (fits_line 1 nothing 0 0 refl refl)

  then_weighs : (c : Cond) (body : List Stmt) → Each Weighs body → Weighs (stmt.If c body [])
  then_weighs c body f k names quiet h =
      let whole_so : (cond_known k c && (stmts_known k body && true)) ≡ true = ap (λ (g : Known → Bool). g k) (sym (if_here known.stmt_step c body [])) ∙ h in
      let p = and_parts (cond_known k c) (stmts_known k body && true) whole_so in
      let q = and_parts (stmts_known k body) true p.1 in
      let bt = stmts_text {prelude = prelude} names no_stmts (map (stmt_text prelude) body) in
      let s = cond_spans prelude names quiet c in
      let ss = cond_symbols (cond_text prelude names c) in
      let head : Numbers = line_of 3 s.count s.deep in
      let b = body_shapes k names quiet no_stmts head (if_head prelude c) (none_behind (if_head prelude c) head (spans_fit 3 ss (cond_extent prelude c).extent s)) body f q.0 in
      subst (λ (g : Names → StmtText prelude). Shapes (stmt_symbols (g names)) (stmt_shape prelude (stmt.If c body []))) (sym (if_here (printed.stmt_step prelude) c body []))
      (subst (Shapes (stmt_symbols {prelude = prelude} (simple (if_then (cond_text prelude names c) (braces bt))))) (sym (if_here (spec.stmt_step prelude) c body [])) (record {
        numbers = worded_of (closed_of (joined head b.numbers));
        fits = fits_worded (closed (stmts_behind prelude (if_head prelude c) body)) _ (fits_closed (stmts_behind prelude (if_head prelude c) body) _ b.fits);
        counted = then_counted ss (stmts_symbols bt) s.count s.deep s.row b.numbers b.counted;
      }))

  else_weighs : (c : Cond) (body : List Stmt) (x : Stmt) (other : List Stmt) → Each Weighs body → Each Weighs (x ∷ other) → Weighs (stmt.If c body (x ∷ other))
  else_weighs c body x other f g k names quiet h =
      let whole_so : (cond_known k c && (stmts_known k body && stmts_known k (x ∷ other))) ≡ true = ap (λ (w : Known → Bool). w k) (sym (if_here known.stmt_step c body (x ∷ other))) ∙ h in
      let p = and_parts (cond_known k c) (stmts_known k body && stmts_known k (x ∷ other)) whole_so in
      let q = and_parts (stmts_known k body) (stmts_known k (x ∷ other)) p.1 in
      let bt = stmts_text {prelude = prelude} names no_stmts (map (stmt_text prelude) body) in
      let ot = stmts_text {prelude = prelude} names no_stmts (map (stmt_text prelude) (x ∷ other)) in
      let s = cond_spans prelude names quiet c in
      let ss = cond_symbols (cond_text prelude names c) in
      let head : Numbers = line_of 3 s.count s.deep in
      let b = body_shapes k names quiet no_stmts head (if_head prelude c) (none_behind (if_head prelude c) head (spans_fit 3 ss (cond_extent prelude c).extent s)) body f q.0 in
      let middle : Numbers = joined (joined head b.numbers) else_of in
      let start = both (stmts_behind prelude (if_head prelude c) body) else_head in
      let o = body_shapes k names quiet no_stmts middle start (none_behind start middle (fits_both (stmts_behind prelude (if_head prelude c) body) else_head (joined head b.numbers) else_of b.fits else_fits)) (x ∷ other) g q.1 in
      let all = stmts_behind prelude start (x ∷ other) in
      subst (λ (w : Names → StmtText prelude). Shapes (stmt_symbols (w names)) (stmt_shape prelude (stmt.If c body (x ∷ other)))) (sym (if_here (printed.stmt_step prelude) c body (x ∷ other)))
      (subst (Shapes (stmt_symbols {prelude = prelude} (simple (if_else (cond_text prelude names c) (braces bt) (braces ot))))) (sym (if_here (spec.stmt_step prelude) c body (x ∷ other))) (record {
        numbers = worded_of (closed_of (joined middle o.numbers));
        fits = fits_worded (closed all) _ (fits_closed all _ o.fits);
        counted = else_counted ss (stmts_symbols bt) (stmts_symbols ot) s.count s.deep s.row b.numbers o.numbers b.counted o.counted;
      }))

  test_weighs : (c : Cond) (body other : List Stmt) → Each Weighs body → Each Weighs other → Weighs (stmt.If c body other)
  test_weighs c body [] f g = then_weighs c body f
  test_weighs c body (x ∷ other) f g = else_weighs c body x other f g

  assign_weighs : (o : Option Op) (id : ArrayId) (subs : List Ix) (v : Val) → Weighs (stmt.Assign o id subs v)
  assign_weighs o id subs v k names quiet h =
      let w = word (array_name names id) in
      let ds = dims_symbols (dims_text prelude names subs) in
      let vs = value_symbols (value_text prelude names v) in
      let one : Extent = record { tokens = 1; depth = 0 } in
      let s = dims_span prelude names quiet no_dims (w ∷ []) one subs (one_word w (plain_word (array_name names id) (quiet.arrays id))) in
      let t = val_spans prelude names quiet v in
      let a = s.tokens in let b = t.tokens in let c = s.depth in let d = t.depth in
      let e = larger_is (dims_behind prelude one subs).depth (at_level level.Or (val_extent prelude v)).depth in
      let size : s.count + (1 + t.count) ≡ s.count + t.count + 1 = omega arith in
      let row : Row (s.count + t.count + 1) (max s.deep t.deep) ((w ∷ ds) ++ mark (assign_mark o) ∷ vs) =
      subst (λ n. Row n (max s.deep t.deep) ((w ∷ ds) ++ mark (assign_mark o) ∷ vs)) size (row_both s.count (1 + t.count) s.deep t.deep (w ∷ ds) (mark (assign_mark o) ∷ vs) s.row (row_more t.count t.deep (mark (assign_mark o)) vs (plain_assign o) t.row)) in
      let all = line_counted ((w ∷ ds) ++ mark (assign_mark o) ∷ vs) (mark (codes ";")) 1 (s.count + t.count) (max s.deep t.deep) refl (record { opening = refl; closing = refl }) refl row in
      record {
        numbers = line_of 1 (s.count + t.count) (max s.deep t.deep);
        fits = fits_line 1 (spec.beside (dims_behind prelude one subs) (at_level level.Or (val_extent prelude v))) (s.count + t.count) (max s.deep t.deep) (omega (arith, a, b)) (omega (arith, c, d, e));
        counted = subst (λ l. Counted l (line_of 1 (s.count + t.count) (max s.deep t.deep))) (ap (λ z. w ∷ z) (append_assoc ds (mark (assign_mark o) ∷ vs) (mark (codes ";") ∷ []))) all;
      }

  block_weighs : (ls : List Local) (body : List Stmt) → Each Weighs body → Weighs (stmt.Block ls body)
  block_weighs ls body f k names quiet h =
      let whole_so : (block_known k ls && stmts_known (and_locals k ls) body) ≡ true = ap (λ (g : Known → Bool). g k) (sym (block_here known.stmt_step ls body)) ∙ h in
      let p = and_parts (block_known k ls) (stmts_known (and_locals k ls) body) whole_so in
      let q = and_parts (k.prelude || is_none ls) (locals_known k [] ls) p.0 in
      let r = locals_text prelude names no_locals ls in
      let first : Numbers = line_of 0 0 0 in
      let l = locals_shapes prelude k [] names quiet no_locals first (line 0 nothing) (none_behind (line 0 nothing) first (fits_line 0 nothing 0 0 refl refl)) ls q.1 in
      let bt = stmts_text {prelude = prelude} (with_locals names ls) no_stmts (map (stmt_text prelude) body) in
      let head : Numbers = joined first l.here.numbers in
      let b = body_shapes (and_locals k ls) (with_locals names ls) l.quiet no_stmts head (block_head prelude ls) (none_behind (block_head prelude ls) head l.here.fits) body f p.1 in
      let same : r.1 ≡ with_locals names ls = locals_names prelude names ls in
      subst (λ (g : Names → StmtText prelude). Shapes (stmt_symbols (g names)) (stmt_shape prelude (stmt.Block ls body))) (sym (block_here (printed.stmt_step prelude) ls body))
      (subst (λ n. Shapes (stmt_symbols {prelude = prelude} (block r.0 (stmts_text n no_stmts (map (stmt_text prelude) body)))) (stmt_shape prelude (stmt.Block ls body))) (sym same)
      (subst (Shapes (stmt_symbols {prelude = prelude} (block r.0 bt))) (sym (block_here (spec.stmt_step prelude) ls body)) (record {
        numbers = closed_of (joined head b.numbers);
        fits = fits_closed (stmts_behind prelude (block_head prelude ls) body) _ b.fits;
        counted = block_counted (locals_symbols r.0) (stmts_symbols bt) l.here.numbers b.numbers l.here.counted b.counted;
      })))

  pub stmt_weighs : (s : Stmt) → Weighs s
  stmt_weighs s = every_stmt Weighs (record { loop = loop_weighs; test = test_weighs; assign = assign_weighs; block = block_weighs }) s

  pub all_weigh : (xs : List Stmt) → Each Weighs xs
  all_weigh [] = tt
  all_weigh (x ∷ xs) = (stmt_weighs x, all_weigh xs)
