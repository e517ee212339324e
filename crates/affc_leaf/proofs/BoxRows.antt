-- The rows of a box, range by range, and the negated row of a column.
use Rattle.std.proofs.Common.{◌≡◌, ℕ, zero, suc, ◌+◌, ◌<◌, List, [], ◌∷◌, map, ℤ, pos, negsuc, neg_ℤ, ◌+ℤ◌, ◌*ℤ◌, refl, sym, ap, subst, ◌∙◌, arith}
use Rattle.std.proofs.lemmas.Int.{ints}
use Rattle.affc_rows.specs.Forms.{mixed}
use Rattle.std.specs.Prelude.{◌≤◌, ◌-◌, unsigned_abs, replicate}
use Rattle.std.specs.List.{All}
use Rattle.std.proofs.lemmas.List.Elements.{All-nil, All-cons, All-replicate}
use Rattle.affc_rows.specs.Vocabulary.{unit_of, column_form, HasOpposite}
use Rattle.affc_rows.proofs.VocabularyLemmas.{within_opposite}
use Rattle.affc_leaf.specs.Boxed.{unit}
use Rattle.affc_rows.specs.Forms.{Affine}

negated_term : (c : ℤ) → (negsuc 0 *ℤ c) +ℤ (pos 0 *ℤ c) ≡ neg_ℤ c
negated_term c = omega (arith, ints)

pub negated_once : (cs : List ℤ) → mixed (negsuc 0) cs (pos 0) cs ≡ map neg_ℤ cs
negated_once [] = refl
negated_once (c ∷ cs) = ap (λ z. z ∷ mixed (negsuc 0) cs (pos 0) cs) (negated_term c) ∙ ap (λ l. neg_ℤ c ∷ l) (negated_once cs)

-- a column's coefficients: so many zeros before the 1, and so many after it
pub unit_is : (columns j : ℕ) → j < columns → unit_of columns j ≡ unit j (columns - (j + 1))
unit_is zero j h = absurd (omega arith)
unit_is (suc n) zero h =
    let e : n ≡ (suc n - (zero + 1)) = omega arith in
    ap (λ m. pos 1 ∷ replicate m (pos 0)) e
unit_is (suc n) (suc j) h =
    let e : (n - (j + 1)) ≡ (suc n - (suc j + 1)) = omega arith in
    ap (λ cs. pos 0 ∷ cs) (unit_is n j (omega arith)) ∙ ap (λ m. pos 0 ∷ unit j m) e

unit_below : (columns j : ℕ) → All (λ c. unsigned_abs c ≤ 1) (unit_of columns j)
unit_below zero j = All-nil (λ c. unsigned_abs c ≤ 1)
unit_below (suc n) zero = All-cons (λ c. unsigned_abs c ≤ 1) (pos 1) (replicate n (pos 0)) (omega arith) (All-replicate (λ c. unsigned_abs c ≤ 1) n (pos 0) (omega arith))
unit_below (suc n) (suc j) = All-cons (λ c. unsigned_abs c ≤ 1) (pos 0) (unit_of n j) (omega arith) (unit_below n j)

pub column_opposite : (columns j : ℕ) (f : Affine) → f ≡ column_form columns j → HasOpposite f
column_opposite columns j f e =
    subst HasOpposite (sym e) (within_opposite 1 0 (column_form columns j) (omega arith) (omega arith) (unit_below columns j) (omega arith))
