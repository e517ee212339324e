-- The examples of systems, and of a fold that is made again.
use Rattle.std.proofs.Common.{◌≡◌, ℕ, zero, suc, ◌<◌, ℤ, pos, negsuc, ◌≤ℤ◌, List, [], ◌∷◌, length, map, Option, Some, None, refl, sym, ap, subst, ◌∙◌, inl, inr, arith}
use Rattle.std.specs.Prelude.{slice_index_or}
use Rattle.std.specs.List.{Contains}
use Rattle.std.proofs.lemmas.Int.{ints}
use Rattle.std.proofs.lemmas.List.Elements.{All-nil, All-cons, All-head}
use Rattle.std.proofs.lemmas.Option.{none-some, same_Some}
use Rattle.affc_system.specs.Boxes.{InBox}
use Rattle.affc_system.specs.Systems.{Rows, IsPoint, Meets}
use Rattle.affc_system.specs.declared.pairs.PairSystem.{PairSystem}
use Rattle.affc_basis.specs.Examples.{onto}
use Rattle.affc_basis.specs.declared.fold.Fold.{Fold}
use Rattle.affc_basis.specs.declared.fold.Modulus.{Modulus}
use Rattle.affc_weigh.specs.declared.choice.Choice.{Choice}
use Rattle.affc_weigh.specs.declared.choice.Price.{Price}
use Rattle.affc_weigh.specs.declared.ratings.Rated.{Rated}
use Rattle.affc_folds.specs.Examples.{IsFromThree, IsFromTen, VoidInTheBox, CopiesInAll, KeptOrNot, AddedOrNot, FirstOrFound, least, rated, costs_three, price}
use Rattle.affc_folds.specs.Folding.{HasBound}
use Rattle.affc_folds.specs.Systems.{IsCopy, IsVoid, AreKept, Adds}
use Rattle.affc_folds.specs.Tries.{IsEither}
use Rattle.affc_folds.proofs.ExampleProofs.{is_bound, not_bound}
use Rattle.affc_folds.proofs.KeptLemmas.{none_kept, one_passed, one_kept}

-- ---- Points

abbrev from : ℤ → Rows
from n = record { columns = 1; rows = record { coefs = pos 1 ∷ []; constant = n } ∷ [] }

past_the_box : (x : ℤ) → x ≤ℤ pos 9 → Meets (x ∷ []) (record { coefs = pos 1 ∷ []; constant = negsuc 9 }) → ⊥
past_the_box x most m = omega (arith, ints, most, m)

none_from_ten : (z : List ℤ) → InBox ((pos 0, pos 9) ∷ []) z → IsPoint (from (negsuc 9)) z → ⊥
none_from_ten [] b p = absurd b
none_from_ten (x ∷ y ∷ z) b p = absurd b.2
none_from_ten (x ∷ []) b p = past_the_box x b.1 (All-head (Meets (x ∷ [])) (record { coefs = pos 1 ∷ []; constant = negsuc 9 }) [] p.meets)

three_is_one : IsPoint (from (negsuc 2)) (pos 3 ∷ [])
three_is_one = record { width = refl; meets = All-cons (Meets (pos 3 ∷ [])) (record { coefs = pos 1 ∷ []; constant = negsuc 2 }) [] (omega (arith, ints)) (All-nil (Meets (pos 3 ∷ []))) }

void : (s : PairSystem) → IsFromTen s → IsVoid s
void s t z b p = none_from_ten z (subst (λ r. InBox r z) t.ranges b) (subst (λ (q : Rows). IsPoint q z) t.rows p)

not_void : (s : PairSystem) → IsFromThree s → IsVoid s → ⊥
not_void s t v = v (pos 3 ∷ []) (subst (λ r. InBox r (pos 3 ∷ [])) (sym t.ranges) (omega (arith, ints), omega (arith, ints), tt)) (subst (λ (q : Rows). IsPoint q (pos 3 ∷ [])) (sym t.rows) three_is_one)

pub void_in_the_box : VoidInTheBox
void_in_the_box s = (void s, not_void s)

-- ---- Copies

itself : (s : PairSystem) → IsCopy s s
itself s = record { rows = refl; ranges = refl; x = refl; y = refl }

not_empty : {A : Type 0} (a : A) (more : List A) → a ∷ more ≡ [] → ⊥
not_empty a more e = absurd (omega (arith, ap length e))

-- a copy of a system without a point has none
void_copy : (s t : PairSystem) → IsCopy s t → IsVoid t → IsVoid s
void_copy s t c v z b p = v z (subst (λ r. InBox r z) (sym c.ranges) b) (subst (λ (q : Rows). IsPoint q z) (sym c.rows) p)

other : (s t : PairSystem) → IsFromThree s → IsFromTen t → IsCopy s t → ⊥
other s t three ten c = not_void s three (void_copy s t c (void t ten))

void_of : (s t : PairSystem) → IsCopy s t → IsVoid s → IsVoid t
void_of s t c v z b p = v z (subst (λ r. InBox r z) c.ranges b) (subst (λ (q : Rows). IsPoint q z) c.rows p)

pub copies_in_all : CopiesInAll
copies_in_all s t = (
  itself s,
  other s t,
  λ three e c. not_empty (pos 0, pos 9) [] (sym three.ranges ∙ sym c.ranges ∙ e),
  λ f e n c. not_empty f [] (sym e ∙ sym c.x ∙ n),
  λ f e n c. not_empty f [] (sym e ∙ sym c.y ∙ n),
)

-- ---- Systems that are kept

module _ (three ten : PairSystem) (t : IsFromThree three) (v : IsFromTen ten) where
  ten_passed : AreKept (ten ∷ []) []
  ten_passed = one_passed ten [] (void ten v) [] none_kept

  ten_kept : AreKept (ten ∷ []) (ten ∷ [])
  ten_kept = one_kept ten ten [] (itself ten) [] none_kept

  three_kept : AreKept (three ∷ []) (three ∷ [])
  three_kept = one_kept three three [] (itself three) [] none_kept

  -- with a point among those that are kept of it
  has_point : (systems kept : List PairSystem) → AreKept systems kept → Contains systems three → (k : PairSystem) × Contains kept k × IsCopy three k
  has_point systems kept h i = elim (h.all three i) [ inl none ↦ absurd (not_void three t none) | inr r ↦ r ]

  only_void : (k : PairSystem) → Contains (ten ∷ []) k → IsCopy three k → ⊥
  only_void k h c = by_place h.0 h.1 h.2
    where
      by_place : (n : ℕ) → n < 1 → slice_index_or (ten ∷ []) n k ≡ k → ⊥
      by_place zero below e = other three ten t v (subst (IsCopy three) (sym e) c)
      by_place (suc n) below e = absurd (omega (arith, below))

  none_there : (k : PairSystem) → Contains [] k → ⊥
  none_there k h = absurd (omega (arith, h.1))

  left_out : (systems : List PairSystem) → Contains systems three → AreKept systems (ten ∷ []) → ⊥
  left_out systems i h = let r = has_point systems (ten ∷ []) h i in only_void r.0 r.1 r.2

  none_of_ten : AreKept (ten ∷ []) (three ∷ []) → ⊥
  none_of_ten h = let r = h.copies three (0, omega arith, refl) in by_place r.0 r.1.0 r.1.1 r.1.2 r.2
    where
      by_place : (of : PairSystem) (n : ℕ) → n < 1 → slice_index_or (ten ∷ []) n of ≡ of → IsCopy of three → ⊥
      by_place of zero below e c = not_void three t (void_of of three c (subst IsVoid e (void ten v)))
      by_place of (suc n) below e c = absurd (omega (arith, below))

  kept : AreKept (ten ∷ three ∷ []) (three ∷ []) × AreKept (ten ∷ three ∷ []) (ten ∷ three ∷ []) × (AreKept (ten ∷ three ∷ []) (ten ∷ []) → ⊥) × (AreKept (ten ∷ []) (three ∷ []) → ⊥)
  kept = (
    one_kept three three [] (itself three) (ten ∷ []) ten_passed,
    one_kept three three (ten ∷ []) (itself three) (ten ∷ []) ten_kept,
    left_out (ten ∷ three ∷ []) (1, omega arith, refl),
    none_of_ten,
  )

  added : Adds (three ∷ []) [] (three ∷ []) × Adds (ten ∷ []) (three ∷ []) (three ∷ []) × (Adds (three ∷ []) (ten ∷ []) (ten ∷ []) → ⊥) × (Adds (ten ∷ []) (three ∷ []) [] → ⊥) × (Adds (ten ∷ []) [] (three ∷ []) → ⊥)
  added = (
    one_kept three three [] (itself three),
    one_passed ten (three ∷ []) (void ten v),
    λ h. left_out (ten ∷ three ∷ []) (1, omega arith, refl) (h (ten ∷ []) ten_kept),
    λ h. (let r = has_point (three ∷ ten ∷ []) [] (h (three ∷ []) three_kept) (0, omega arith, refl) in none_there r.0 r.1),
    λ h. none_of_ten (h [] none_kept),
  )

pub kept_or_not : KeptOrNot
kept_or_not = kept

pub added_or_not : AddedOrNot
added_or_not = added

-- ---- A fold that is made again

differ : (n : ℕ) → least n ≡ onto 3 → ⊥
differ n e = not_bound n (subst HasBound (sym e) (is_bound 3))

taken_again : (n : ℕ) (choice : Choice) (one : Option Rated) → IsEither (onto 3) choice one (least n)
    → (r : Rated) × (one ≡ Some r) × (least n ≡ r.fold) × (r.price.cost ≡ choice.cost)
taken_again n choice one (inl e) = absurd (differ n e)
taken_again n choice one (inr r) = (r.0, r.1, r.2, r.3)

other_cost : (n : ℕ) (price : Option Price) → IsEither (onto 3) (costs_three price) (Some (rated 3 n)) (least 3) → n ≡ 3
other_cost n price h = let r = taken_again 3 (costs_three price) (Some (rated 3 n)) h in ap (λ (q : Rated). q.price.cost) (same_Some (rated 3 n) r.0 r.1) ∙ r.3

pub first_or_found : FirstOrFound
first_or_found = (
  inl refl,
  inl refl,
  inr (rated 3 3, refl, refl, refl, not_missing),
  inr (rated 3 3, refl, refl, refl, not_missing),
  λ h. (let r = taken_again 4 (costs_three (price (3 ∷ []) 3)) (Some (rated 3 3)) h in too_many (r.2 ∙ sym (ap (λ (q : Rated). q.fold) (same_Some (rated 3 3) r.0 r.1)))),
  λ h. (let r = taken_again 3 (costs_three (price (3 ∷ []) 3)) None h in none-some r.0 r.1),
  λ h. absurd (omega (arith, other_cost 4 (price (3 ∷ []) 3) h)),
  λ h. absurd (omega (arith, other_cost 2 (price (3 ∷ []) 3) h)),
  untold,
)
  where
    not_missing : Some (price (3 ∷ []) 3) ≡ Some None → ⊥
    not_missing e = none-some (record { values = 3 ∷ []; cost = 3 }) (sym (same_Some (price (3 ∷ []) 3) None e))

    too_many : least 4 ≡ least 3 → ⊥
    too_many e = let constants = ap (λ (f : Fold). map (λ (m : Modulus). m.form.constant) f.moduli) e in absurd (cc)

    untold : IsEither (onto 3) (costs_three None) (Some (rated 3 3)) (least 3) → ⊥
    untold (inl e) = differ 3 e
    untold (inr r) = r.4 refl
