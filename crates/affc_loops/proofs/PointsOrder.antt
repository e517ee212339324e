-- The times that loops between ends run through, in lexicographic order.
use Rattle.std.proofs.Common.{◌≡◌, ℕ, zero, suc, ℤ, pos, ◌+ℤ◌, ◌-ℤ◌, ◌≤ℤ◌, ◌<ℤ◌, Bool, true, false, T, List, [], ◌∷◌, ◌++◌, length, map, flat_map, refl, sym, ap, subst, ◌∙◌, inl, inr, arith}
use Rattle.std.proofs.lemmas.Int.{ints}
use Rattle.std.specs.declared.cmp.Ordering.TheVariants.{Less}
use Rattle.std.specs.Ordering.{int_cmp, ordering_then}
use Rattle.std.specs.Cmp.{int_cmp_is, int_cmp_total, tied_itself}
use Rattle.std.specs.Cmp.Lexicographic.{slice_cmp}
use Rattle.affc_ast.specs.declared.tree.Ix.{Ix}
use Rattle.affc_ast.specs.declared.tree.Rel.TheVariants.{LessEqual}
use Rattle.affc_ast.specs.Fits.{whole}
use Rattle.affc_ast.specs.Meaning.{at_least_zero, turns_of}
use Rattle.affc_ast.specs.Trace.{count_from}
use Rattle.affc_trace.specs.Law.{IsIn}
use Rattle.affc_trace.specs.Orders.{Earlier}
use Rattle.affc_trace.proofs.Members.{to_flat_map, in_map, to_map}
use Rattle.affc_trace.proofs.Once.{in_flat_map}
use Rattle.affc_trace.proofs.Earliers.{earlier_map, rises_flat_map, Rises}
use Rattle.affc_domain.proofs.TurnLemmas.{counted_least, to_counted, below, not_below}
use Rattle.affc_loops.specs.Between.{LiesBetween}

-- ---- the points

-- the numbers of a range, both ends included
abbrev pub numbers_of : ℤ × ℤ → List ℤ
numbers_of range = count_from (turns_of LessEqual range.0 range.1) range.0

-- with the first component leading, where the names in sight have these values
abbrev pub points : (ends : List (Ix × Ix)) → (names : List ℤ) → List (List ℤ)
points [] names = [] ∷ []
points (e ∷ es) names = flat_map (λ x. map (λ t. x ∷ t) (points es (names ++ x ∷ []))) (numbers_of (whole e.0 names, whole e.1 names))

-- ---- so many numbers from x on

counted_rises : (n : ℕ) (x : ℤ) → (a b : ℤ) → Earlier (count_from n x) a b → a <ℤ b
counted_rises zero x a b e = absurd e
counted_rises (suc n) x a b (inl e) =
    let h : (x +ℤ pos 1) ≤ℤ b = (counted_least n (x +ℤ pos 1) b e.1).0 in
    let q : a ≡ x = e.0 in
    omega (arith, ints)
counted_rises (suc n) x a b (inr e) = counted_rises n (x +ℤ pos 1) a b e

-- ---- the numbers of a range

pub in_numbers : (low high y : ℤ) → IsIn y (numbers_of (low, high)) → (low ≤ℤ y) × (y ≤ℤ high)
in_numbers low high y i =
    let h = counted_least (at_least_zero (high +ℤ pos 1 -ℤ low)) low y i in
    let l : low ≤ℤ y = h.0 in
    let g : y <ℤ (low +ℤ (high +ℤ pos 1 -ℤ low)) = below (high +ℤ pos 1 -ℤ low) low y h.0 h.1 in
    (l, omega (arith, ints))

pub to_numbers : (low high y : ℤ) → low ≤ℤ y → y ≤ℤ high → IsIn y (numbers_of (low, high))
to_numbers low high y l h =
    let g : y <ℤ (low +ℤ (high +ℤ pos 1 -ℤ low)) = omega (arith, ints) in
    to_counted (at_least_zero (high +ℤ pos 1 -ℤ low)) low y l (not_below (high +ℤ pos 1 -ℤ low) low y l g)

-- ---- the points

abbrev is_empty : List ℤ → Bool
is_empty [] = true
is_empty (x ∷ xs) = false

pub in_points : (ends : List (Ix × Ix)) (names t : List ℤ) → IsIn t (points ends names) → LiesBetween ends names t
in_points [] names [] i = tt
in_points [] names (x ∷ t) (inl e) = subst (λ l. T (is_empty l)) (sym e) tt
in_points [] names (x ∷ t) (inr i) = absurd i
in_points (e ∷ es) names t i =
    let a = in_flat_map (λ x. map (λ u. x ∷ u) (points es (names ++ x ∷ []))) (numbers_of (whole e.0 names, whole e.1 names)) t i in
    let b = in_map (λ u. a.0 ∷ u) (points es (names ++ a.0 ∷ [])) t a.2 in
    let n = in_numbers (whole e.0 names) (whole e.1 names) a.0 a.1 in
    subst (LiesBetween (e ∷ es) names) (sym b.2) (n.0, n.1, in_points es (names ++ a.0 ∷ []) b.0 b.1)

pub to_points : (ends : List (Ix × Ix)) (names t : List ℤ) → LiesBetween ends names t → IsIn t (points ends names)
to_points [] names [] b = inl refl
to_points [] names (x ∷ t) b = absurd b
to_points (e ∷ es) names [] b = absurd b
to_points (e ∷ es) names (x ∷ t) b =
    to_flat_map (λ y. map (λ u. y ∷ u) (points es (names ++ y ∷ []))) (numbers_of (whole e.0 names, whole e.1 names)) x (x ∷ t) (to_numbers (whole e.0 names) (whole e.1 names) x b.0 b.1)
    (to_map (λ u. x ∷ u) (points es (names ++ x ∷ [])) t (to_points es (names ++ x ∷ []) t b.2))

-- one number for each pair of ends
pub between_length : (ends : List (Ix × Ix)) (names t : List ℤ) → LiesBetween ends names t → length t ≡ length ends
between_length [] names [] b = refl
between_length [] names (x ∷ t) b = absurd b
between_length (e ∷ es) names [] b = absurd b
between_length (e ∷ es) names (x ∷ t) b = ap suc (between_length es (names ++ x ∷ []) t b.2)

less_by_first : (x y : ℤ) (t u : List ℤ) → x <ℤ y → slice_cmp int_cmp (x ∷ t) (y ∷ u) ≡ Less
less_by_first x y t u l = ap (λ o. ordering_then o (slice_cmp int_cmp t u)) (sym (int_cmp_is x y Less l))

less_by_rest : (x : ℤ) (t u : List ℤ) → slice_cmp int_cmp t u ≡ Less → slice_cmp int_cmp (x ∷ t) (x ∷ u) ≡ Less
less_by_rest x t u e = ap (λ o. ordering_then o (slice_cmp int_cmp t u)) (tied_itself int_cmp_total x) ∙ e

rises_at_once : (names : List ℤ) → Rises (slice_cmp int_cmp) (points [] names)
rises_at_once names a b (inl e) = absurd e.1
rises_at_once names a b (inr e) = absurd e

pub points_rise : (ends : List (Ix × Ix)) (names : List ℤ) → Rises (slice_cmp int_cmp) (points ends names)
points_rise [] names = rises_at_once names
points_rise (e ∷ es) names =
    rises_flat_map (slice_cmp int_cmp) (λ x. map (λ u. x ∷ u) (points es (names ++ x ∷ []))) (numbers_of (whole e.0 names, whole e.1 names))
    (λ x i a b h.
    let m = earlier_map (λ u. x ∷ u) (points es (names ++ x ∷ [])) a b h in
    ap (λ z. slice_cmp int_cmp z b) m.3 ∙ ap (slice_cmp int_cmp (x ∷ m.0)) m.4 ∙ less_by_rest x m.0 m.1 (points_rise es (names ++ x ∷ []) m.0 m.1 m.2))
    (λ x y a b h i j.
    let m = in_map (λ u. x ∷ u) (points es (names ++ x ∷ [])) a i in
    let k = in_map (λ u. y ∷ u) (points es (names ++ y ∷ [])) b j in
    ap (λ z. slice_cmp int_cmp z b) m.2 ∙ ap (slice_cmp int_cmp (x ∷ m.0)) k.2 ∙ less_by_first x y m.0 k.0 (counted_rises _ (whole e.0 names) x y h))
