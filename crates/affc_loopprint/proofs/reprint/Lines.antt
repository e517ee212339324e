-- The lines that are printed before a function keep the limits on tokens, runs and brackets, where a text that keeps those of one without the prelude reads so.
use Rattle.std.proofs.Common.{◌≡◌, ℕ, ◌+◌, ◌*◌, ◌≤◌, Bool, true, false, max, List, [], ◌∷◌, ◌++◌, length, codes, ℤ, pos, int_lt, Ok, refl, sym, ap, subst, ◌∙◌, arith, append_assoc, length-append, if◌then◌else◌}
use Rattle.std.proofs.lemmas.List.{append-nil}
use Rattle.std.proofs.lemmas.List.Sums.{sum_by-cons}
use Rattle.affc_lex.specs.declared.token.Kind.TheVariants.{Hash}
use Rattle.affc_ast.specs.declared.tree.Compare.{Compare}
use Rattle.affc_ast.specs.declared.tree.Param.{Param}
use Rattle.affc_ast.specs.declared.tree.Param.TheVariants.{Number, Array}
use Rattle.affc_ast.specs.declared.tree.Program.{Program}
use Rattle.affc_grammar.specs.Grammar as g
use Rattle.affc_grammar.specs.Grammar.{Name, Symbol, word, PragmasText, LineText, cond_symbols, line_symbols, pragma_symbols, pragmas_symbols, int_symbols}
use Rattle.affc_grammar.specs.Draft.{CompareDraft, PragmaDraft, range, context, cond_draft, comparisons_in, pragmas_draft, word_draft, int_value}
use Rattle.affc_grammar.specs.Limits.{count_run, count_open}
use Rattle.affc_grammar.specs.Names.{Scope, each, compare_tree, why_ranged, thing_of, pragmas_tree}
use Rattle.affc_wellnamed.specs.declared.shape.Shape.{Shape}
use Rattle.affc_wellnamed.specs.Known.{is_number, number_count}
use Rattle.affc_wellnamed.specs.Shape.{nothing, compare_extent, compares_behind, both, line, end_tokens, range_line, ranges_behind, context_behind, lines_shape}
use Rattle.affc_cprint.proofs.Sees.{ok_of, both_ok, then_is, allowed_ok, allowed_is}
use Rattle.affc_wellnamed.proofs.Counts.{highest, after, highest_both, Adds, Rises, run_more}
use Rattle.affc_wellnamed.proofs.ShapeParts.{larger_is}
use Rattle.affc_loopprint.proofs.reprint.Values.{CondsFit, conds_read, conds_within, all_tokens, all_deep, tokens_both, deep_both}
use Rattle.affc_loopprint.proofs.reprint.Statements.{HasRun, run_row, run_left, run_right, numbers_of, AtMost}

-- so many brackets open at once, from whatever comes before
pub record HasDeep (k : ℕ) (ss : List Symbol) : Type 0 where
  pub most : (n : ℕ) → k ≤ highest count_open n ss

pub deep_row : (k : ℕ) (ss : List Symbol) → Rises count_open k ss → HasDeep k ss
deep_row k ss a = record { most = λ n. let m = a.most n in omega (arith, m) }

pub deep_left : (k : ℕ) (xs ys : List Symbol) → HasDeep k xs → HasDeep k (xs ++ ys)
deep_left k xs ys h = record { most = λ n. let e = highest_both count_open n xs ys in let l = h.most n in omega (arith, e, l) }

pub deep_right : (k : ℕ) (xs ys : List Symbol) → HasDeep k ys → HasDeep k (xs ++ ys)
deep_right k xs ys h = record { most = λ n. let e = highest_both count_open n xs ys in let l = h.most (after count_open n xs) in omega (arith, e, l) }

-- ---- Conditions

record PragmasSplit (scope : Scope) (earlier : List Name) (xs ys : List PragmaDraft) (zs : List Compare) : Type 0 where
  front : List Compare
  back : List Compare
  later : List Name
  front_ok : pragmas_tree scope earlier xs ≡ Ok front
  back_ok : pragmas_tree scope later ys ≡ Ok back
  all : zs ≡ front ++ back

pragmas_split : (scope : Scope) (earlier : List Name) (xs ys : List PragmaDraft) (zs : List Compare) → pragmas_tree scope earlier (xs ++ ys) ≡ Ok zs → PragmasSplit scope earlier xs ys zs
pragmas_split scope earlier [] ys zs h = record { front = []; back = zs; later = earlier; front_ok = refl; back_ok = h; all = refl }
pragmas_split scope earlier (range w low_at low high ∷ xs) ys zs h =
    let why = why_ranged scope earlier w.name (thing_of scope w.name) in
    let a = allowed_ok why w.at _ zs h in
    let r = pragmas_split scope (w.name ∷ earlier) xs ys zs a.1 in
    record { front = r.front; back = r.back; later = r.later; front_ok = allowed_is why w.at _ r.front a.0 r.front_ok; back_ok = r.back_ok; all = r.all }
pragmas_split scope earlier (context at cs ∷ xs) ys zs h =
    let p = both_ok (each (compare_tree scope) cs) _ zs h in
    let q = both_ok (pragmas_tree scope earlier (xs ++ ys)) _ zs p.2 in
    let r = pragmas_split scope earlier xs ys q.0 q.1 in
    record {
      front = p.0 ++ r.front;
      back = r.back;
      later = r.later;
      front_ok = then_is (each (compare_tree scope) cs) _ p.0 _ p.1 (then_is (pragmas_tree scope earlier xs) _ r.front _ r.front_ok refl);
      back_ok = r.back_ok;
      all = sym (ok_of q.2) ∙ ap (λ l. p.0 ++ l) r.all ∙ sym (append_assoc p.0 r.front r.back);
    }

-- each comparison of a line has fewer tokens than twice a run
pub record LinesFit (xs : List Compare) : Type 0 where
  pub few : all_tokens true xs ≤ 4086 * length xs
  pub shallow : all_deep true xs ≤ 193

lines_none : LinesFit []
lines_none = record { few = omega arith; shallow = omega arith }

lines_both : (xs ys : List Compare) → LinesFit xs → LinesFit ys → LinesFit (xs ++ ys)
lines_both xs ys p q =
    let t = tokens_both true xs ys in let d = deep_both true xs ys in let n = length-append xs ys in
    let a = p.few in let b = q.few in let c = p.shallow in let e = q.shallow in
    record { few = omega (arith, t, n, a, b); shallow = omega (arith, d, c, e) }

abbrev hash : Symbol
hash = record { kind = Hash; bytes = codes "#" }

context_run : (ss : List Symbol) (line : LineText) → Adds count_run (length ss) ss → HasRun (4 + length ss) (pragma_symbols (codes "context") ++ (ss ++ line_symbols line))
context_run ss line a =
    let front : List Symbol = hash ∷ word (codes "pragma") ∷ word (codes "affc") ∷ word (codes "context") ∷ ss in
    let one : Adds count_run (1 + (1 + (1 + (1 + length ss)))) front = run_more _ hash _ refl (run_more _ (word (codes "pragma")) _ refl (run_more _ (word (codes "affc")) _ refl (run_more _ (word (codes "context")) ss refl a))) in
    let all = run_left _ front (line_symbols line) (run_row _ _ one) in
    record { most = λ n. let m = all.most n in omega (arith, m) }

one_line : (cs : List Symbol) (ys : List Compare) (f : CondsFit true cs ys) → 4 + length cs ≤ 2048 → f.deep ≤ 64 → LinesFit ys
one_line cs ys f h d = let a = f.few in let b = f.some in let s = f.shallow in record { few = omega (arith, a, b, h); shallow = omega (arith, d, s) }

pub pragmas_read : (scope : Scope) (at : ℕ) (ps : PragmasText) (earlier : List Name) (xs : List Compare) → pragmas_tree scope earlier (pragmas_draft at ps) ≡ Ok xs
    → ((k : ℕ) → HasRun k (pragmas_symbols ps) → k ≤ 2048) → ((k : ℕ) → HasDeep k (pragmas_symbols ps) → k ≤ 64) → LinesFit xs
pragmas_read scope at g.no_pragmas earlier xs h run deep = subst LinesFit (ok_of h) lines_none
pragmas_read scope at (g.and_range ps w low high line) earlier xs h run deep =
    let next = at + length (pragmas_symbols ps) in
    let s = pragmas_split scope earlier (pragmas_draft at ps) (range (word_draft (next + 4) w) (next + 5) (int_value low) (int_value high) ∷ []) xs h in
    let a = allowed_ok (why_ranged scope s.later w (thing_of scope w)) (next + 4) _ s.back s.back_ok in
    subst LinesFit (sym s.all)
    (lines_both s.front s.back (pragmas_read scope at ps earlier s.front s.front_ok (λ k f. run k (run_left k (pragmas_symbols ps) _ f)) (λ k f. deep k (deep_left k (pragmas_symbols ps) _ f)))
    (subst LinesFit (ok_of a.1) lines_none))
pragmas_read scope at (g.and_context ps c line) earlier xs h run deep =
    let next = at + length (pragmas_symbols ps) in
    let tests : List CompareDraft = comparisons_in (cond_draft (next + 4) c) in
    let s = pragmas_split scope earlier (pragmas_draft at ps) (context (next + 3) tests ∷ []) xs h in
    let p = both_ok (each (compare_tree scope) tests) _ s.back s.back_ok in
    let f = conds_read true scope (next + 4) c p.0 p.1 in
    let here : List Symbol = pragma_symbols (codes "context") ++ (cond_symbols c ++ line_symbols line) in
    let long = run (4 + length (cond_symbols c)) (run_right _ (pragmas_symbols ps) here (context_run (cond_symbols c) line f.lies.run)) in
    let low = deep f.deep (deep_right f.deep (pragmas_symbols ps) here (deep_right f.deep (pragma_symbols (codes "context")) _ (deep_left f.deep (cond_symbols c) (line_symbols line) (deep_row f.deep (cond_symbols c) f.lies.brackets)))) in
    subst LinesFit (sym s.all)
    (lines_both s.front s.back (pragmas_read scope at ps earlier s.front s.front_ok (λ k q. run k (run_left k (pragmas_symbols ps) _ q)) (λ k q. deep k (deep_left k (pragmas_symbols ps) _ q)))
    (subst LinesFit (sym (append-nil p.0) ∙ ok_of p.2) (one_line (cond_symbols c) p.0 f long low)))

-- ---- What is printed

ends_few : (z : ℤ) → end_tokens z ≤ 2
ends_few z = of (int_lt z (pos 0))
  where
    of : (b : Bool) → (if b then 2 else 1) ≤ 2
    of true = omega arith
    of false = omega arith

abbrev one_if : Param → ℕ
one_if q = if is_number q then 1 else 0

ranges_most : (a : Shape) (t r d i : ℕ) (qs : List Param) → AtMost (numbers_of a) (record { tokens = t; run = r; depth = d; items = i }) → AtMost (numbers_of (ranges_behind a qs)) (record { tokens = t + 10 * number_count qs; run = max r 9; depth = d; items = i })
ranges_most a t r d i [] p =
    let x = p.tokens in let y = p.run in
    record { tokens = omega (arith, x); run = omega (arith, y); depth = p.depth; items = p.items }
ranges_most a t r d i (Number w low high ∷ qs) p =
    let l = ends_few low in let h = ends_few high in
    let b = range_line low high in
    let m = larger_is a.run b.run in let n = larger_is a.depth b.depth in
    let x = p.tokens in let y = p.run in let z = p.depth in let v = p.items in
    let next = ranges_most (both a b) (t + 10) (max r 9) d i qs (record { tokens = omega (arith, x, l, h); run = omega (arith, y, l, h, m); depth = omega (arith, z, n); items = omega (arith, v) }) in
    let count = sum_by-cons one_if (Number w low high) qs in
    let e = next.tokens in let f = next.run in
    record { tokens = omega (arith, e, count); run = omega (arith, f); depth = next.depth; items = next.items }
ranges_most a t r d i (Array x ∷ qs) p =
    let next = ranges_most a t r d i qs p in
    let count = sum_by-cons one_if (Array x) qs in
    let e = next.tokens in
    record { tokens = omega (arith, e, count); run = next.run; depth = next.depth; items = next.items }

context_most : (a : Shape) (cs : List Compare) → AtMost (numbers_of a) (record { tokens = 44; run = 9; depth = 0; items = 0 }) → LinesFit cs → length cs ≤ 16
    → AtMost (numbers_of (context_behind a cs)) (record { tokens = 65424; run = 65379; depth = 193; items = 0 })
context_most a [] p f h = let x = p.tokens in let y = p.run in let z = p.depth in record { tokens = omega (arith, x); run = omega (arith, y); depth = omega (arith, z); items = p.items }
context_most a (c ∷ cs) p f h =
    let u = conds_within true c cs in
    let k = u.few in let s = u.shallow in let l = f.few in let d = f.shallow in
    let b = line 4 (compares_behind true (compare_extent true c) cs) in
    let m = larger_is a.run b.run in let n = larger_is a.depth b.depth in
    let x = p.tokens in let y = p.run in let z = p.depth in let v = p.items in
    record { tokens = omega (arith, x, k, l, h); run = omega (arith, y, k, l, h, m); depth = omega (arith, z, s, d, n); items = omega (arith, v) }

pub lines_most : (p : Program) → LinesFit p.context → number_count p.params ≤ 4 → length p.context ≤ 16 → AtMost (numbers_of (lines_shape p)) (record { tokens = 65424; run = 65379; depth = 193; items = 0 })
lines_most p f few h =
    let r = ranges_most (line 3 nothing) 4 3 0 0 p.params (record { tokens = omega arith; run = omega arith; depth = omega arith; items = omega arith }) in
    let t = r.tokens in let u = r.run in let d = r.depth in let i = r.items in
    context_most (ranges_behind (line 3 nothing) p.params) p.context (record { tokens = omega (arith, t, few); run = omega (arith, u); depth = d; items = i }) f h
