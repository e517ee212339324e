-- Calls in lines before the function: the tokens have one where the tree has one.
use Rattle.std.proofs.Common.{◌≡◌, ℕ, ◌+◌, ◌&&◌, ◌||◌, Bool, true, false, not, List, [], ◌∷◌, ◌++◌, length, codes, Ok, ℤ, IsTrue, refl, sym, ap, subst, ◌∙◌, append_assoc}
use Rattle.std.proofs.Math.Bool.{or_assoc}
use Rattle.std.proofs.lemmas.Bool.{false≢true}
use Rattle.std.proofs.lemmas.List.{append-nil}
use Rattle.std.proofs.lemmas.List.Folds.{list_any-append}
use Rattle.std.specs.List.{list_any}
use Rattle.affc_lex.specs.Bytes.{same}
use Rattle.affc_ast.specs.declared.tree.Ix.{Ix}
use Rattle.affc_ast.specs.declared.tree.Ix.TheOpen as layer
use Rattle.affc_ast.specs.declared.tree.Ix.TheOpen.{Ix-F}
use Rattle.affc_ast.specs.declared.tree.Compare.{Compare}
use Rattle.affc_ast.specs.declared.tree.Rel.{Rel}
use Rattle.affc_ast.specs.declared.tree.Rel.TheVariants.{Less, LessEqual, Greater, GreaterEqual, Equal, NotEqual}
use Rattle.affc_ast.specs.declared.tree.Param.{Param}
use Rattle.affc_ast.specs.declared.tree.Param.TheVariants.{Number, Array}
use Rattle.affc_ast.specs.declared.tree.Program.{Program}
use Rattle.affc_ast.specs.Recursion.{by_ix}
use Rattle.affc_grammar.specs.Grammar.{Name, Symbol, word, number as number_symbol, mark, is_word_kind, is_mark_kind, Choice, minimum, maximum, remainder, Rounding, down, up, choice_name, rounding_name, rel_mark, IxText, term, plus, minus, TermText, factor, times, FactorText, atom, negated, AtomText, literal, name, grouped, chosen, divided, CondText, all_of, or_all, AllText, prim, and_prim, PrimText, enclosed, compared, divisible, PragmasText, no_pragmas, and_range, and_context, line_feed, Text, has_call, context_calls, ix_symbols, term_symbols, factor_symbols, atom_symbols, cond_symbols, all_symbols, prim_symbols, include_symbols}
use Rattle.affc_grammar.specs.Draft as draft
use Rattle.affc_grammar.specs.Draft.{PragmaDraft, ix_draft, term_draft, factor_draft, atom_draft, conjuncts, cond_draft, all_draft, prim_draft, comparisons_in, pragmas_draft, text_draft}
use Rattle.affc_grammar.specs.Names.{Scope, each, number_named, ix_tree, compare_tree, choice_tree, rounding_tree, thing_of, why_ranged, with_params, outermost, pragmas_tree, program_tree}
use Rattle.affc_grammar.specs.Printed.{int_text, ranges_text, context_text, tests_text}
use Rattle.affc_cprint.specs.Layout.{pragmas_of}
use Rattle.affc_cprint.proofs.Nodes.{neg_here, add_here, sub_here, mul_here, min_here, max_here, mod_here, floord_here, ceild_here}
use Rattle.affc_cprint.proofs.Sees.{ok_of, both_ok, allowed_ok}
use Rattle.affc_cprint.proofs.Programs.{param_names_are}
use Rattle.affc_cprint.proofs.ReadBackValues.{Each, each_append, each_split, one_ok, IsCompareBack, comparisons_append, tests_again}
use Rattle.affc_cprint.proofs.ReadBackTexts.{ProgramBack, inside_of, names_of, sees_inside}
use Rattle.affc_cprint.proofs.Parts.{program_parts}

abbrev pub calls_step : Ix-F Bool → Bool
calls_step (layer.Lit n) = false
calls_step (layer.Name id) = false
calls_step (layer.Neg a) = a
calls_step (layer.Add a b) = a || b
calls_step (layer.Sub a b) = a || b
calls_step (layer.Mul a b) = a || b
calls_step (layer.Min a b) = true
calls_step (layer.Max a b) = true
calls_step (layer.Mod a b) = true
calls_step (layer.Floord a by) = true
calls_step (layer.Ceild a by) = true

abbrev pub calls_in : Ix → Bool
calls_in e = by_ix calls_step e

-- whether a "(" comes first
abbrev opens : List Symbol → Bool
opens [] = false
opens (s ∷ ss) = is_mark_kind s.kind && same s.bytes (codes "(")

-- whether the symbols have a call, before others that don't begin with "("
abbrev Calls : List Symbol → Bool → Type 0
Calls ss b = (rest : List Symbol) → opens rest ≡ false → has_call (ss ++ rest) ≡ (b || has_call rest)

no_word : (s : Symbol) (rest : List Symbol) → is_word_kind s.kind ≡ false → has_call (s ∷ rest) ≡ has_call rest
no_word s [] h = refl
no_word s (x ∷ rest) h = rw h refl

no_bracket : (w : Name) (rest : List Symbol) → opens rest ≡ false → has_call (word w ∷ rest) ≡ has_call rest
no_bracket w [] h = refl
no_bracket w (x ∷ rest) h = rw h refl

both_calls : (m : List ℕ) (xs ys : List Symbol) (a b : Bool) → same m (codes "(") ≡ false → Calls xs a → Calls ys b → Calls (xs ++ mark m ∷ ys) (a || b)
both_calls m xs ys a b h p q rest o =
    ap has_call (append_assoc xs (mark m ∷ ys) rest) ∙ p (mark m ∷ (ys ++ rest)) h ∙ ap (λ c. a || c) (no_word (mark m) (ys ++ rest) refl ∙ q rest o) ∙ sym (or_assoc a b (has_call rest))

inside_calls : (xs : List Symbol) (a : Bool) → Calls xs a → Calls (mark (codes "(") ∷ (xs ++ mark (codes ")") ∷ [])) a
inside_calls xs a p rest o =
    no_word (mark (codes "(")) ((xs ++ mark (codes ")") ∷ []) ++ rest) refl ∙ ap has_call (append_assoc xs (mark (codes ")") ∷ []) rest) ∙ p (mark (codes ")") ∷ rest) refl ∙ ap (λ c. a || c) (no_word (mark (codes ")")) rest refl)

a_call : (w : Name) (ss : List Symbol) → Calls (word w ∷ mark (codes "(") ∷ ss) true
a_call w ss rest o = refl

choice_calls : (f : Choice) (x y : Ix) → calls_in (choice_tree f x y) ≡ true
choice_calls minimum x y = min_here calls_step x y
choice_calls maximum x y = max_here calls_step x y
choice_calls remainder x y = mod_here calls_step x y

rounding_calls : (f : Rounding) (x : Ix) (n : ℤ) → calls_in (rounding_tree f x n) ≡ true
rounding_calls down x n = floord_here calls_step x n
rounding_calls up x n = ceild_here calls_step x n

module _ {prelude : Bool} (scope : Scope) where
  mutual
    ix_calls : (c : IxText prelude) (at : ℕ) (e : Ix) → ix_tree scope (ix_draft at c) ≡ Ok e → Calls (ix_symbols c) (calls_in e)
    ix_calls (term a) at e h = term_calls a at e h
    ix_calls (plus a b) at e h =
        let p = both_ok (ix_tree scope (ix_draft at a)) _ e h in
        let q = both_ok (ix_tree scope (term_draft _ b)) _ e p.2 in
        subst (Calls (ix_symbols a ++ mark (codes "+") ∷ term_symbols b)) (sym (add_here calls_step p.0 q.0) ∙ ap calls_in (ok_of q.2))
        (both_calls (codes "+") (ix_symbols a) (term_symbols b) (calls_in p.0) (calls_in q.0) refl (ix_calls a at p.0 p.1) (term_calls b _ q.0 q.1))
    ix_calls (minus a b) at e h =
        let p = both_ok (ix_tree scope (ix_draft at a)) _ e h in
        let q = both_ok (ix_tree scope (term_draft _ b)) _ e p.2 in
        subst (Calls (ix_symbols a ++ mark (codes "-") ∷ term_symbols b)) (sym (sub_here calls_step p.0 q.0) ∙ ap calls_in (ok_of q.2))
        (both_calls (codes "-") (ix_symbols a) (term_symbols b) (calls_in p.0) (calls_in q.0) refl (ix_calls a at p.0 p.1) (term_calls b _ q.0 q.1))

    term_calls : (c : TermText prelude) (at : ℕ) (e : Ix) → ix_tree scope (term_draft at c) ≡ Ok e → Calls (term_symbols c) (calls_in e)
    term_calls (factor a) at e h = factor_calls a at e h
    term_calls (times a b) at e h =
        let p = both_ok (ix_tree scope (term_draft at a)) _ e h in
        let q = both_ok (ix_tree scope (factor_draft _ b)) _ e p.2 in
        subst (Calls (term_symbols a ++ mark (codes "*") ∷ factor_symbols b)) (sym (mul_here calls_step p.0 q.0) ∙ ap calls_in (ok_of q.2))
        (both_calls (codes "*") (term_symbols a) (factor_symbols b) (calls_in p.0) (calls_in q.0) refl (term_calls a at p.0 p.1) (factor_calls b _ q.0 q.1))

    factor_calls : (c : FactorText prelude) (at : ℕ) (e : Ix) → ix_tree scope (factor_draft at c) ≡ Ok e → Calls (factor_symbols c) (calls_in e)
    factor_calls (atom a) at e h = atom_calls a at e h
    factor_calls (negated a) at e h =
        let p = both_ok (ix_tree scope (atom_draft (at + 1) a)) _ e h in
        let inner = atom_calls a (at + 1) p.0 p.1 in
        subst (Calls (mark (codes "-") ∷ atom_symbols a)) (sym (neg_here calls_step p.0) ∙ ap calls_in (ok_of p.2))
        (λ rest o. no_word (mark (codes "-")) (atom_symbols a ++ rest) refl ∙ inner rest o)

    atom_calls : (c : AtomText prelude) (at : ℕ) (e : Ix) → ix_tree scope (atom_draft at c) ≡ Ok e → Calls (atom_symbols c) (calls_in e)
    atom_calls (literal ds) at e h = subst (Calls (number_symbol ds ∷ [])) (ap calls_in (ok_of h)) (λ rest o. no_word (number_symbol ds) rest refl)
    atom_calls (name w) at e h =
        let p = both_ok (number_named scope at w) _ e h in
        subst (Calls (word w ∷ [])) (ap calls_in (ok_of p.2)) (λ rest o. no_bracket w rest o)
    atom_calls (grouped a) at e h = inside_calls (ix_symbols a) (calls_in e) (ix_calls a (at + 1) e h)
    atom_calls (chosen on f a b) at e h =
        let p = both_ok (ix_tree scope (ix_draft (at + 2) a)) _ e h in
        let q = both_ok (ix_tree scope (ix_draft _ b)) _ e p.2 in
        subst (Calls (atom_symbols (chosen on f a b))) (sym (choice_calls f p.0 q.0) ∙ ap calls_in (ok_of q.2)) (a_call (choice_name f) (ix_symbols a ++ mark (codes ",") ∷ (ix_symbols b ++ mark (codes ")") ∷ [])))
    atom_calls (divided on f a by some) at e h =
        let p = both_ok (ix_tree scope (ix_draft (at + 2) a)) _ e h in
        subst (Calls (atom_symbols (divided on f a by some))) (sym (rounding_calls f p.0 _) ∙ ap calls_in (ok_of p.2)) (a_call (rounding_name f) (ix_symbols a ++ mark (codes ",") ∷ number_symbol by ∷ mark (codes ")") ∷ []))

-- ---- Conditions

abbrev pub calls_beside : Compare → Bool
calls_beside c = calls_in c.left || calls_in c.right

abbrev pub any_calls : List Compare → Bool
any_calls cs = list_any calls_beside cs

or_false : (b : Bool) → (b || false) ≡ b
or_false true = refl
or_false false = refl

rel_is_no_bracket : (rel : Rel) → same (rel_mark rel) (codes "(") ≡ false
rel_is_no_bracket Less = refl
rel_is_no_bracket LessEqual = refl
rel_is_no_bracket Greater = refl
rel_is_no_bracket GreaterEqual = refl
rel_is_no_bracket Equal = refl
rel_is_no_bracket NotEqual = refl

module _ {prelude : Bool} (scope : Scope) where
  mutual
    tests_calls : (c : CondText prelude false) (at : ℕ) (xs : List Compare) → each (compare_tree scope) (comparisons_in (cond_draft at c)) ≡ Ok xs → Calls (cond_symbols c) (any_calls xs)
    tests_calls (all_of a) at xs e = all_tests_calls a at xs e
    tests_calls (or_all on c a) at xs e = absurd (cc)

    all_tests_calls : (c : AllText prelude false) (at : ℕ) (xs : List Compare) → each (compare_tree scope) (comparisons_in (all_draft at c)) ≡ Ok xs → Calls (all_symbols c) (any_calls xs)
    all_tests_calls (prim q) at xs e = test_calls q at xs e
    all_tests_calls (and_prim a q) at xs e =
        let next = at + length (all_symbols a) + 1 in
        let p = each_split (compare_tree scope) (comparisons_in (all_draft at a)) (comparisons_in (prim_draft next q)) xs (ap (each (compare_tree scope)) (sym (comparisons_append (conjuncts (all_draft at a)) (conjuncts (prim_draft next q)))) ∙ e) in
        subst (Calls (all_symbols a ++ mark (codes "&&") ∷ prim_symbols q)) (sym (ap any_calls p.all ∙ list_any-append calls_beside p.front p.back))
        (both_calls (codes "&&") (all_symbols a) (prim_symbols q) (any_calls p.front) (any_calls p.back) refl (all_tests_calls a at p.front p.front_ok) (test_calls q next p.back p.back_ok))

    test_calls : (c : PrimText prelude false) (at : ℕ) (xs : List Compare) → each (compare_tree scope) (comparisons_in (prim_draft at c)) ≡ Ok xs → Calls (prim_symbols c) (any_calls xs)
    test_calls (enclosed c) at xs e = inside_calls (cond_symbols c) (any_calls xs) (tests_calls c (at + 1) xs e)
    test_calls (compared a rel on b) at xs e =
        let next = at + length (ix_symbols a) + 1 in
        let o = one_ok (compare_tree scope) (record { rel = rel; left = ix_draft at a; right = ix_draft next b }) xs e in
        let p = both_ok (ix_tree scope (ix_draft at a)) _ o.0 o.1 in
        let q = both_ok (ix_tree scope (ix_draft next b)) _ o.0 p.2 in
        subst (Calls (ix_symbols a ++ mark (rel_mark rel) ∷ ix_symbols b)) (ap calls_beside (ok_of q.2) ∙ sym (or_false (calls_beside o.0)) ∙ sym (ap any_calls o.2))
        (both_calls (rel_mark rel) (ix_symbols a) (ix_symbols b) (calls_in p.0) (calls_in q.0) (rel_is_no_bracket rel) (ix_calls scope a at p.0 p.1) (ix_calls scope b next q.0 q.1))
    test_calls (divisible on t by some so) at xs e = absurd (cc)

  whole_calls : (c : CondText prelude false) (at : ℕ) (xs : List Compare) → each (compare_tree scope) (comparisons_in (cond_draft at c)) ≡ Ok xs → has_call (cond_symbols c) ≡ any_calls xs
  whole_calls c at xs e = ap has_call (sym (append-nil (cond_symbols c))) ∙ tests_calls c at xs e [] refl ∙ or_false (any_calls xs)

-- ---- Lines

-- a line without calls comes from a text
abbrev QuietLine : PragmaDraft → Type 0
QuietLine (draft.range w low_at low high) = Unit {0}
QuietLine (draft.context at cs) = (t : CondText true false) × (at' : ℕ) × (comparisons_in (cond_draft at' t) ≡ cs) × (has_call (cond_symbols t) ≡ false)

both_off : (a b : Bool) → (a || b) ≡ false → (a ≡ false) × (b ≡ false)
both_off true b e = absurd (false≢true (sym e))
both_off false b e = (refl, e)

pub quiet_lines : (c : PragmasText) (at : ℕ) → context_calls c ≡ false → Each QuietLine (pragmas_draft at c)
quiet_lines no_pragmas at h = tt
quiet_lines (and_range ps w low high line) at h = each_append QuietLine (pragmas_draft at ps) _ (quiet_lines ps at h) (tt, tt)
quiet_lines (and_context ps cs line) at h =
    let p = both_off (context_calls ps) (has_call (cond_symbols cs)) h in
    each_append QuietLine (pragmas_draft at ps) _ (quiet_lines ps at p.0) ((cs, _, refl, p.1), tt)

pub quiet_context : (inside : Scope) (ps : List PragmaDraft) (earlier : List Name) (xs : List Compare) → Each QuietLine ps → pragmas_tree inside earlier ps ≡ Ok xs → any_calls xs ≡ false
quiet_context inside [] earlier xs f e = sym (ap any_calls (ok_of e))
quiet_context inside (draft.range w low_at low high ∷ ps) earlier xs f e =
    quiet_context inside ps (w.name ∷ earlier) xs f.1 (allowed_ok (why_ranged inside earlier w.name (thing_of inside w.name)) w.at _ xs e).1
quiet_context inside (draft.context at cs ∷ ps) earlier xs f e =
    let p = both_ok (each (compare_tree inside) cs) _ xs e in
    let q = both_ok (pragmas_tree inside earlier ps) _ xs p.2 in
    let here : any_calls p.0 ≡ false = sym (whole_calls inside f.0.0 f.0.1 p.0 (ap (each (compare_tree inside)) f.0.2 ∙ p.1)) ∙ f.0.3 in
    ap any_calls (sym (ok_of q.2)) ∙ list_any-append calls_beside p.0 q.0 ∙ ap (λ b. b || any_calls q.0) here ∙ quiet_context inside ps earlier q.0 f.1 q.1

ranges_quiet : (c : PragmasText) (qs : List Param) → context_calls (ranges_text c qs) ≡ context_calls c
ranges_quiet c [] = refl
ranges_quiet c (Number w low high ∷ qs) = ranges_quiet (and_range c w (int_text low) (int_text high) line_feed) qs
ranges_quiet c (Array d ∷ qs) = ranges_quiet c qs

pub printed_quiet : (p : Program) → ProgramBack p → any_calls p.context ≡ false → context_calls (pragmas_of p) ≡ false
printed_quiet p b none =
    ap (λ n. context_calls (context_text n (ranges_text no_pragmas p.params) p.context)) (param_names_are true p.params) ∙ of p.context b.context none
  where
    of : (xs : List Compare) → Each (IsCompareBack true (inside_of p) (names_of p) (sees_inside p)) xs → any_calls xs ≡ false → context_calls (context_text (names_of p) (ranges_text no_pragmas p.params) xs) ≡ false
    of [] bs h = ranges_quiet no_pragmas p.params
    of (x ∷ xs) bs h =
        let r = tests_again (inside_of p) (names_of p) (sees_inside p) x xs bs in
        ap (λ b. b || has_call (cond_symbols (tests_text (names_of p) x xs))) (ranges_quiet no_pragmas p.params) ∙ whole_calls (inside_of p) (tests_text (names_of p) x xs) 0 (x ∷ xs) (r.reads 0) ∙ h

-- A program that a text is read as has the prelude, or its lines are printed without calls.
pub calls_again : (c : Text) (p : Program) → ProgramBack p → program_tree (text_draft c) ≡ Ok p → (p.prelude || not (context_calls (pragmas_of p))) ≡ true
calls_again c p b e =
    let parts = program_parts (text_draft c) p e in
    ap (λ x. x || not (context_calls (pragmas_of p))) parts.prelude ∙ of c.has_prelude (context_calls c.pragmas) refl c.calls_allowed parts.context
  where
    of : (has_prelude calls : Bool) → context_calls c.pragmas ≡ calls → IsTrue (has_prelude || not calls) → pragmas_tree (with_params (outermost (text_draft c)) (text_draft c).params) [] (text_draft c).pragmas ≡ Ok p.context
        → (has_prelude || not (context_calls (pragmas_of p))) ≡ true
    of true calls q t h = refl
    of false true q t h = absurd (false≢true t)
    of false false q t h = ap not (printed_quiet p b (quiet_context _ (text_draft c).pragmas [] p.context (quiet_lines c.pragmas (length (include_symbols c.line)) q) h))
