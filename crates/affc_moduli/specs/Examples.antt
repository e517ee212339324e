-- What the definitions give at pairs that lie one or two apart, as the live pairs of a blur of three elements. Each value was found
-- by hand.
use Rattle.std.specs.Prelude.{◌≡◌, ℕ, ℤ, pos, negsuc, List, [], ◌∷◌, Option, Some, None}
use Rattle.affc_rows.specs.Forms.{Affine}
use Rattle.affc_system.specs.Systems.{Rows}
use Rattle.affc_system.specs.declared.pairs.PairSystem.{PairSystem}
use Rattle.affc_split.specs.Budgets.{Account}
use Rattle.affc_split.specs.declared.maximum.region.Region.{Region}
use Rattle.affc_basis.specs.declared.fold.Mark.TheVariants.{Bound}
use Rattle.affc_basis.specs.declared.fold.Modulus.{Modulus}
use Rattle.affc_basis.specs.Examples.{x0, number, two_more, two_rows, marked}
use Rattle.affc_moduli.specs.Barred.{IsBarredAt}
use Rattle.affc_moduli.specs.Distances.{IsForward, IsBackward, AreApartWithin, IsApartAt}
use Rattle.affc_moduli.specs.Enough.{AreBelow, IsSuitable}
use Rattle.affc_moduli.specs.Rows.{IsDone, IsKept, AreMarkedOr}
use Rattle.affc_moduli.specs.Shown.{IsEitherWay}
use Rattle.affc_moduli.specs.Slices.{AgreeAt}

-- ---- Pairs

-- a N + b i + c j + k
abbrev pub form : (a b c k : ℤ) → Affine
form a b c k = record { coefs = a ∷ b ∷ c ∷ []; constant = k }

-- i is at least 0; j is at least i + 1, and at most i + 2 and N + 1
abbrev pub near : Rows
near = record {
  columns = 3;
  rows = form (pos 0) (pos 1) (pos 0) (pos 0) ∷ form (pos 0) (negsuc 0) (pos 1) (negsuc 0) ∷ form (pos 0) (pos 1) (negsuc 0) (pos 2) ∷ form (pos 1) (pos 0) (negsuc 0) (pos 1) ∷ [];
}

-- the elements i and j
pub record AreNear (s : PairSystem) : Type 0 where
  pub points : s.system ≡ near
  pub first : s.x.items ≡ form (pos 0) (pos 1) (pos 0) (pos 0) ∷ []
  pub second : s.y.items ≡ form (pos 0) (pos 0) (pos 1) (pos 0) ∷ []

-- N from 1 to 4
abbrev pub any : Rows
any = record { columns = 1; rows = [] }

abbrev pub up_to_four : List (ℤ × ℤ)
up_to_four = (pos 1, pos 4) ∷ []

pub record IsOfContext (c : Region) : Type 0 where
  pub points : c.system ≡ any
  pub ranges : c.ranges ≡ up_to_four

-- the pairs there
pub record IsOfPairs (r : Region) : Type 0 where
  pub points : r.system ≡ near
  pub ranges : r.ranges ≡ (pos 1, pos 4) ∷ (pos 0, pos 5) ∷ (pos 0, pos 5) ∷ []

-- ---- Distances

abbrev pub row : List ℤ
row = pos 1 ∷ []

-- the greatest is 2, as at N = 3 the elements 0 and 2 show; 0 and 1 aren't so far apart, and 0 and 3 are no pair
abbrev pub TwoIsFarthest : Type 0
TwoIsFarthest = (s : PairSystem) (r : Region) → AreNear s → IsOfPairs r
    → AreApartWithin (s ∷ []) (r ∷ []) row 2
    × (AreApartWithin (s ∷ []) (r ∷ []) row 1 → ⊥)
    × IsApartAt (s ∷ []) (r ∷ []) row 0 (pos 3 ∷ pos 0 ∷ pos 2 ∷ []) 2
    × (IsApartAt (s ∷ []) (r ∷ []) row 0 (pos 3 ∷ pos 0 ∷ pos 1 ∷ []) 2 → ⊥)
    × (IsApartAt (s ∷ []) (r ∷ []) row 0 (pos 3 ∷ pos 0 ∷ pos 3 ∷ []) 3 → ⊥)

-- i - j, and j - i
abbrev pub ahead : Affine
ahead = form (pos 0) (pos 1) (negsuc 0) (pos 0)

abbrev pub behind : Affine
behind = form (pos 0) (negsuc 0) (pos 1) (pos 0)

-- Along i - j alone, which is nowhere above -1, a modulus of 1 would do; j - i comes to 2.
abbrev pub OneSideIsTooLittle : Type 0
OneSideIsTooLittle = (s : PairSystem) (r : Region) → AreNear s → IsOfPairs r
    → IsForward row s ahead
    × (IsForward row s behind → ⊥)
    × IsBackward row s behind
    × (IsBackward row s ahead → ⊥)
    × AreBelow (r ∷ []) (ahead ∷ []) (number 1)
    × (AreBelow (r ∷ []) (behind ∷ []) (number 1) → ⊥)

abbrev pub Suits : (c r : Region) → (n need : ℕ) → Type 0
Suits c r n need = IsSuitable c (r ∷ []) (ahead ∷ []) (behind ∷ []) (number n) (pos need)

-- so 3 suits, and neither 2 nor what one side comes to; nor does 4, where 3 is the most
abbrev pub ThreeSuits : Type 0
ThreeSuits = (c r : Region) → IsOfContext c → IsOfPairs r → Suits c r 3 3 × (Suits c r 2 2 → ⊥) × (Suits c r 1 1 → ⊥) × (Suits c r 4 3 → ⊥)

-- ---- Moduli

abbrev pub pair : (x y : ℕ) → Option (List ℤ × List ℤ)
pair x y = Some (pos x ∷ [], pos y ∷ [])

abbrev pub bound : Affine → Modulus
bound f = record { form = f; mark = Bound }

abbrev pub IsDoneBy : PairSystem → Modulus → Type 0
IsDoneBy s m = IsDone any up_to_four (s ∷ []) (x0 ∷ []) 0 x0 m

abbrev pub IsKeptBy : PairSystem → Modulus → Type 0
IsKeptBy s m = IsKept any up_to_four (s ∷ []) (x0 ∷ []) 0 x0 m

-- 3 is enough, and least by the elements 0 and 2 at N = 2, in either order; it isn't by 0 and 1, and not without a pair
abbrev pub ThreeIsDone : Type 0
ThreeIsDone = (s : PairSystem) → AreNear s
    → IsDoneBy s (marked 3 (pair 0 2))
    × IsDoneBy s (marked 3 (pair 2 0))
    × (IsDoneBy s (marked 3 (pair 0 1)) → ⊥)
    × (IsDoneBy s (marked 3 None) → ⊥)
    -- 2 is one too small, and 4 one more than is needed
    × (IsDoneBy s (marked 2 (pair 0 1)) → ⊥)
    × (IsDoneBy s (marked 4 (pair 0 2)) → ⊥)
    -- without a mark it isn't done
    × (IsDoneBy s (bound (number 3)) → ⊥)

-- where the budget ends, a constant that is enough is kept without a mark; N + 2, which is enough too, is none
abbrev pub BoundsAreConstants : Type 0
BoundsAreConstants = (s : PairSystem) → AreNear s
    → IsKeptBy s (bound (number 3))
    × IsKeptBy s (bound (number 7))
    × (IsKeptBy s (bound (number 2)) → ⊥)
    × (IsKeptBy s (bound two_more) → ⊥)

abbrev three_of : ℕ → Account
three_of spent = record { limit = Some 3; spent = spent }

-- with a unit left there is none
abbrev pub BoundsComeLast : Type 0
BoundsComeLast = AreMarkedOr (three_of 3) (bound (number 3) ∷ [])
    × (AreMarkedOr (three_of 2) (bound (number 3) ∷ []) → ⊥)
    × AreMarkedOr (three_of 2) (marked 3 (pair 0 2) ∷ [])

-- the two elements of a mark may change places, and nothing else
abbrev pub MarksMayTurn : Type 0
MarksMayTurn = IsEitherWay (marked 3 (pair 0 2)) (marked 3 (pair 2 0))
    × IsEitherWay (marked 3 (pair 0 2)) (marked 3 (pair 0 2))
    × (IsEitherWay (marked 3 (pair 0 2)) (marked 3 (pair 0 1)) → ⊥)
    × (IsEitherWay (marked 3 (pair 0 2)) (marked 4 (pair 2 0)) → ⊥)

-- ---- Slices

-- a i + b j + k
abbrev pub flat : (a b k : ℤ) → Affine
flat a b k = record { coefs = a ∷ b ∷ []; constant = k }

-- the elements (0, i) and (j, i + 3)
pub record AreInPlane (s : PairSystem) : Type 0 where
  pub first : s.x.items ≡ flat (pos 0) (pos 0) (pos 0) ∷ flat (pos 1) (pos 0) (pos 0) ∷ []
  pub second : s.y.items ≡ flat (pos 0) (pos 1) (pos 0) ∷ flat (pos 1) (pos 0) (pos 3) ∷ []

-- the second row sees those that lie apart along the first one nowhere, which are those where j is 0
abbrev pub RowsAreSuccessive : Type 0
RowsAreSuccessive = (s : PairSystem) → AreInPlane s
    → AgreeAt s two_rows 1 (pos 7 ∷ pos 0 ∷ [])
    × (AgreeAt s two_rows 1 (pos 7 ∷ pos 1 ∷ []) → ⊥)
    × AgreeAt s two_rows 0 (pos 7 ∷ pos 1 ∷ [])
    × (AgreeAt s two_rows 2 (pos 7 ∷ pos 0 ∷ []) → ⊥)

-- ---- Parallel rows

abbrev line : (a k : ℤ) → Affine
line a k = record { coefs = a ∷ []; constant = k }

-- 2 - N is at least 0 nowhere where N - 3 is; 3 - N is where N is 3; and N - 2 goes the same way
abbrev pub BarredByParallels : Type 0
BarredByParallels = IsBarredAt (line (pos 1) (negsuc 2) ∷ []) (line (negsuc 0) (pos 2)) 0
    × (IsBarredAt (line (pos 1) (negsuc 2) ∷ []) (line (negsuc 0) (pos 3)) 0 → ⊥)
    × (IsBarredAt (line (pos 1) (negsuc 2) ∷ []) (line (pos 1) (negsuc 1)) 0 → ⊥)
