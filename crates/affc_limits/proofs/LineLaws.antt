-- Parameters, declarations and lines, one after another.
use Rattle.std.proofs.Common.{◌≡◌, ℕ, ◌+◌, ◌-◌, ◌==◌, ◌≤◌, Bool, true, false, cond, not, nat_lt, List, [], ◌∷◌, ◌++◌, length, map, drop, fold, filter, Option, Some, None, refl, sym, ap, ◌∙◌, arith}
use Rattle.std.proofs.lemmas.List.{drop_all}
use Rattle.std.proofs.lemmas.Bool.Decides.{nat_tests}
use Rattle.affc_grammar.specs.Draft as d
use Rattle.affc_grammar.specs.Limits.{number_words, param_decls, ranges_past, contexts_past, is_range, at_if}
use Rattle.affc_limits.specs.declared.rests.Rest.{Rest}
use Rattle.affc_limits.specs.Places.{least, lesser, place_if}
use Rattle.affc_limits.specs.Rests.{rest_of, next}
use Rattle.affc_limits.specs.Lines.{with_param, with_decl, with_array, with_range, with_context}
use Rattle.affc_limits.proofs.PlaceLaws.{lesser_assoc, lesser-none, least-append, least_if}
use Rattle.affc_limits.proofs.AssignmentLaws.{rest_all}

-- behind a loop
pub passed_all : {A B C : Type 0} (step : A → B → A) (seen : C → B) (start at : A) (xs : List C) (i : ℕ) → length xs ≤ i → fold step at (map seen (drop i xs)) ≡ fold step start (map seen xs) → at ≡ fold step start (map seen xs)
passed_all step seen start at xs i le kept = ap (λ l. fold step at (map seen l)) (sym (drop_all i xs le)) ∙ kept

words_are : (r : Rest) (ps : List d.ParamDraft) → fold with_param r ps ≡ fold next r (number_words ps)
words_are r [] = refl
words_are r (d.number_param w ∷ ps) = words_are (next r w.at) ps
words_are r (d.array_param k ∷ ps) = words_are r ps

pub parameters_are : (ps : List d.ParamDraft) → (fold with_param (rest_of 4) ps).found ≡ least (drop 4 (number_words ps))
parameters_are ps = ap (λ r. r.found) (words_are (rest_of 4) ps) ∙ rest_all 4 None (number_words ps)

abbrev wide : d.DeclDraft → Bool
wide k = nat_lt 4 (length k.extents)

abbrev places : List d.DeclDraft → List ℕ
places ks = map (λ d. d.word.at) (filter wide ks)

kept_one : (b : Bool) (found : Option ℕ) (k : d.DeclDraft) (ks : List d.DeclDraft) → lesser (lesser found (place_if b k.word.at)) (least (map (λ d. d.word.at) ks)) ≡ lesser found (least (map (λ d. d.word.at) (cond b (k ∷ ks) ks)))
kept_one true found k ks = sym (lesser_assoc found (Some k.word.at) (least (map (λ d. d.word.at) ks)))
kept_one false found k ks = ap (λ o. lesser o (least (map (λ d. d.word.at) ks))) (lesser-none found)

pub decls_are : (found : Option ℕ) (ks : List d.DeclDraft) → fold with_decl found ks ≡ lesser found (least (places ks))
decls_are found [] = sym (lesser-none found)
decls_are found (k ∷ ks) = decls_are (with_decl found k) ks ∙ kept_one (wide k) found k (filter wide ks)

pub arrays_are : (found : Option ℕ) (ps : List d.ParamDraft) → fold with_array found ps ≡ fold with_decl found (param_decls ps)
arrays_are found [] = refl
arrays_are found (d.number_param w ∷ ps) = arrays_are found ps
arrays_are found (d.array_param k ∷ ps) = arrays_are (with_decl found k) ps

-- of two lists of declarations
pub kept-append : (xs ys : List d.DeclDraft) → least (places (xs ++ ys)) ≡ lesser (least (places xs)) (least (places ys))
kept-append [] ys = refl
kept-append (x ∷ xs) ys = by_test (wide x) (kept-append xs ys)
  where
    by_test : (b : Bool) → least (places (xs ++ ys)) ≡ lesser (least (places xs)) (least (places ys))
        → least (map (λ d. d.word.at) (cond b (x ∷ filter wide (xs ++ ys)) (filter wide (xs ++ ys)))) ≡ lesser (least (map (λ d. d.word.at) (cond b (x ∷ filter wide xs) (filter wide xs)))) (least (places ys))
    by_test true e = ap (lesser (Some x.word.at)) e ∙ lesser_assoc (Some x.word.at) (least (places xs)) (least (places ys))
    by_test false e = e

pub ruleset kept_laws = (kept-append)

pub ranges_are : (found : Option ℕ) (ps : List d.PragmaDraft) → fold with_range found ps ≡ lesser found (least (ranges_past ps))
ranges_are found [] = sym (lesser-none found)
ranges_are found (d.range w low_at low high ∷ ps) =
    let t = not (is_range low high) in
    ranges_are (lesser found (place_if t low_at)) ps
    ∙ sym (lesser_assoc found (place_if t low_at) (least (ranges_past ps)))
    ∙ ap (lesser found) (sym (least-append (at_if t low_at) (ranges_past ps) ∙ ap (λ o. lesser o (least (ranges_past ps))) (least_if t low_at)))
ranges_are found (d.context at cs ∷ ps) = ranges_are found ps

counted_down : (n k left : ℕ) → left ≡ 17 - n → ((left - k) == 0) ≡ nat_lt 16 (n + k)
counted_down n k left e = grind (arith, nat_tests)

pub contexts_are : (n left : ℕ) (found : Option ℕ) (ps : List d.PragmaDraft) → left ≡ 17 - n → (fold with_context (record { left = left; found = found }) ps).found ≡ lesser found (least (contexts_past n ps))
contexts_are n left found [] e = sym (lesser-none found)
contexts_are n left found (d.range w low_at low high ∷ ps) e = contexts_are n left found ps e
contexts_are n left found (d.context at cs ∷ ps) e =
    let t = nat_lt 16 (n + length cs) in
    contexts_are (n + length cs) (left - length cs) (lesser found (place_if ((left - length cs) == 0) at)) ps (omega arith)
    ∙ ap (λ b. lesser (lesser found (place_if b at)) (least (contexts_past (n + length cs) ps))) (counted_down n (length cs) left e)
    ∙ sym (lesser_assoc found (place_if t at) (least (contexts_past (n + length cs) ps)))
    ∙ ap (lesser found) (sym (least-append (at_if t at) (contexts_past (n + length cs) ps) ∙ ap (λ o. lesser o (least (contexts_past (n + length cs) ps))) (least_if t at)))
