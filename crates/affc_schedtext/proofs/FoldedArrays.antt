-- The bases of a plan are of different temporaries.
use Rattle.std.proofs.Common.{◌≡◌, ℕ, zero, suc, ◌+◌, Bool, true, false, not, ◌||◌, ◌==◌, List, [], ◌∷◌, ◌++◌, length, map, slice_get, Option, Some, None, refl, sym, ap, ◌∙◌, subst, ◌⊎◌, inl, inr, arith}
use Rattle.std.proofs.lemmas.Bool.{eqb-true, eq-eqb, and_parts, or_parts, or_left, or_right, false≢true}
use Rattle.std.proofs.lemmas.Option.{none-some}
use Rattle.std.proofs.lemmas.List.{length-map}
use Rattle.affc_ast.specs.declared.tree.ArrayId.{ArrayId}
use Rattle.affc_ast.specs.declared.tree.Decl.{Decl}
use Rattle.affc_ast.specs.declared.tree.Program.{Program}
use Rattle.affc_ast.specs.Meaning.{arrays_of}
use Rattle.affc_trace.specs.Law.{IsIn}
use Rattle.affc_trace.specs.Orders.{AreDistinct}
use Rattle.affc_basis.specs.declared.basis.Basis.{Basis}
use Rattle.affc_grammar.specs.Limits.{at_if}
use Rattle.affc_schedtext.specs.declared.plan.Plan.{Plan}
use Rattle.affc_schedtext.specs.Outline.{ArrayOutline, Outline, outline, array_outline, array_at}
use Rattle.affc_schedtext.specs.Draft.{LineDraft, OrderDraft, source, time, text_draft}
use Rattle.affc_schedtext.specs.Rules.{form_over, fold_sides, is_in, is_temporary_of, wrong_folds, fold, fold_breaches, fold_limits, order_breaches}
use Rattle.affc_schedtext.specs.Answers.{AreBasesOfLines, PlanReads}
use Rattle.affc_schedtext.specs.Folded.{IsBasisIn}
use Rattle.affc_schedtext.proofs.Empty.{none_left, none_right, map_none}

abbrev numbers : List (ArrayId × Basis) → List ℕ
numbers fs = map (λ (f : ArrayId × Basis). f.0.0) fs

-- of a temporary with as many dimensions as rows
record IsOf (o : Outline) (x : ℕ) (basis : Basis) : Type 0 where
  array : ArrayOutline
  stands : slice_get o.arrays x ≡ Some array
  temporary : array.is_temporary ≡ true
  rows : length basis.rows ≡ array.dimensions

record AreGood (o : Outline) (earlier : List ℕ) (fs : List (ArrayId × Basis)) : Type 0 where
  apart : (y : ℕ) → is_in y earlier ≡ true → IsIn y (numbers fs) → ⊥
  different : AreDistinct (numbers fs)
  each : (f : ArrayId × Basis) → IsIn f fs → IsOf o f.0.0 f.1

not_if : (b : Bool) (at : ℕ) → at_if b at ≡ [] → b ≡ false
not_if true at e = absurd (cc)
not_if false at e = refl

not_not : (b : Bool) → not b ≡ false → b ≡ true
not_not true e = refl
not_not false e = absurd (false≢true (sym e))

is_of : (o : Outline) (x n : ℕ) (basis : Basis) (found : Option ArrayOutline) → slice_get o.arrays x ≡ found → is_temporary_of n found ≡ true → length basis.rows ≡ n → IsOf o x basis
is_of o x n basis None s t r = absurd (false≢true t)
is_of o x n basis (Some a) s t r =
    let both = and_parts a.is_temporary (a.dimensions == n) t in
    record { array = a; stands = s; temporary = both.0; rows = r ∙ sym (eqb-true a.dimensions n both.1) }

one_more : (o : Outline) (earlier : List ℕ) (f : ArrayId × Basis) (fs : List (ArrayId × Basis)) → is_in f.0.0 earlier ≡ false → IsOf o f.0.0 f.1 → AreGood o (f.0.0 ∷ earlier) fs → AreGood o earlier (f ∷ fs)
one_more o earlier f fs new own rest = record {
  apart = λ y p i. first y p i;
  different = ((λ i. rest.apart f.0.0 (or_left (f.0.0 == f.0.0) (is_in f.0.0 earlier) (eq-eqb f.0.0 f.0.0 refl)) i), rest.different);
  each = λ g i. of_each g i;
}
  where
    first : (y : ℕ) → is_in y earlier ≡ true → (y ≡ f.0.0) ⊎ IsIn y (numbers fs) → ⊥
    first y p (inl q) = false≢true (sym new ∙ ap (λ z. is_in z earlier) (sym q) ∙ p)
    first y p (inr i) = rest.apart y (or_right (f.0.0 == y) (is_in y earlier) p) i

    of_each : (g : ArrayId × Basis) → (g ≡ f) ⊎ IsIn g fs → IsOf o g.0.0 g.1
    of_each g (inl q) = subst (λ (h : ArrayId × Basis). IsOf o h.0.0 h.1) (sym q) own
    of_each g (inr i) = rest.each g i

are_good : (o : Outline) (earlier : List ℕ) (lines : List LineDraft) (fs : List (ArrayId × Basis)) → wrong_folds o earlier lines ≡ [] → AreBasesOfLines o lines fs → AreGood o earlier fs
are_good o earlier [] [] e h = record { apart = λ y p i. absurd i; different = tt; each = λ f i. absurd i }
are_good o earlier [] (f ∷ fs) e h = absurd h
are_good o earlier (l ∷ ls) [] e h = absurd h
are_good o earlier (l ∷ ls) (f ∷ fs) e h =
    let x = f.0.0 in
    let wrong = is_in x earlier || not (is_temporary_of (length l.forms) (slice_get o.arrays x)) in
    let none : at_if wrong l.at ++ wrong_folds o (x ∷ earlier) ls ≡ [] = subst (λ y. elim y [
      | None ↦ l.at ∷ wrong_folds o earlier ls
      | Some z ↦ at_if (is_in z earlier || not (is_temporary_of (length l.forms) (array_at o (Some z)))) l.at ++ wrong_folds o (z ∷ earlier) ls
    ] ≡ []) h.0 e in
    let parts = or_parts (is_in x earlier) (not (is_temporary_of (length l.forms) (slice_get o.arrays x))) (not_if wrong l.at (none_left (at_if wrong l.at) (wrong_folds o (x ∷ earlier) ls) none)) in
    one_more o earlier f fs parts.0
    (is_of o x (length l.forms) f.1 (slice_get o.arrays x) refl (not_not (is_temporary_of (length l.forms) (slice_get o.arrays x)) parts.1) (ap length h.1 ∙ length-map l.forms (form_over (fold_sides o l).there_over)))
    (are_good o (x ∷ earlier) ls fs (none_right (at_if wrong l.at) (wrong_folds o (x ∷ earlier) ls) none) h.3)

-- ---- Temporaries among the arrays

unmapped : (ts : List Decl) (x : ℕ) (a : ArrayOutline) → slice_get (map (array_outline true) ts) x ≡ Some a → (decl : Decl) × (slice_get ts x ≡ Some decl) × (array_outline true decl ≡ a)
unmapped [] x a e = absurd (none-some a e)
unmapped (t ∷ ts) zero a e = (t, refl, same_array (array_outline true t) a e)
  where
    same_array : (b c : ArrayOutline) → ◌≡◌ {A = Option ArrayOutline} (Some b) (Some c) → b ≡ c
    same_array b c e = cc
unmapped (t ∷ ts) (suc x) a e = unmapped ts x a e

no_parameter : (d : Decl) (a : ArrayOutline) → ◌≡◌ {A = Option ArrayOutline} (Some (array_outline false d)) (Some a) → a.is_temporary ≡ true → ⊥
no_parameter d a e t =
    let same : array_outline false d ≡ a = cc in
    false≢true (ap (λ (b : ArrayOutline). b.is_temporary) same ∙ t)

temporary_at : (ds ts : List Decl) (x : ℕ) (a : ArrayOutline) → slice_get (map (array_outline false) ds ++ map (array_outline true) ts) x ≡ Some a → a.is_temporary ≡ true
    → (number : ℕ) × (decl : Decl) × (slice_get ts number ≡ Some decl) × (x ≡ length ds + number) × (a.dimensions ≡ length decl.extents)
temporary_at [] ts x a e t =
    let k = unmapped ts x a e in
    (x, k.0, k.1, omega arith, sym (ap (λ (b : ArrayOutline). b.dimensions) k.2))
temporary_at (d ∷ ds) ts zero a e t = absurd (no_parameter d a e t)
temporary_at (d ∷ ds) ts (suc x) a e t =
    let k = temporary_at ds ts x a e t in
    let place = k.3 in
    (k.0, k.1, k.2, omega (arith, place), k.4)

in_program : (program : Program) (x : ℕ) (basis : Basis) → IsOf (outline program) x basis → IsBasisIn program x basis
in_program program x basis h =
    let k = temporary_at (arrays_of program.params) program.temps x h.array h.stands h.temporary in
    record { number = k.0; decl = k.1; stands = k.2; behind = k.3; rows = h.rows ∙ k.4 }

no_wrong : (o : Outline) (tokens : ℕ) (d : OrderDraft) (folds : List LineDraft) → order_breaches o tokens d folds ≡ [] → wrong_folds o [] folds ≡ []
no_wrong o tokens source folds e = map_none fold (wrong_folds o [] folds) (none_left (fold_breaches o folds) (fold_limits o folds) e)
no_wrong o tokens (time at n lines) folds e =
    map_none fold (wrong_folds o [] folds) (none_right _ (fold_breaches o folds) (none_left _ _ (none_left _ (fold_limits o folds) e)))

good_plan : (text : List ℕ) (program : Program) (plan : Plan) → PlanReads text program plan → AreGood (outline program) [] plan.folds
good_plan text program plan r =
    let s = r.keeps.spells in
    are_good (outline program) [] (text_draft s.written).folds plan.folds (no_wrong (outline program) (length s.tokens) (text_draft s.written).order (text_draft s.written).folds r.keeps.none) r.folds

pub different_arrays : (text : List ℕ) (program : Program) (plan : Plan) → PlanReads text program plan → AreDistinct (map (λ (f : ArrayId × Basis). f.0.0) plan.folds)
different_arrays text program plan r = (good_plan text program plan r).different

pub each_in : (text : List ℕ) (program : Program) (plan : Plan) → PlanReads text program plan → (array : ArrayId) (basis : Basis) → IsIn (array, basis) plan.folds → IsBasisIn program array.0 basis
each_in text program plan r array basis i = in_program program array.0 basis ((good_plan text program plan r).each (array, basis) i)
