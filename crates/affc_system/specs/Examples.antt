-- What the definitions give at a small system. The values were found by hand.
use Rattle.std.specs.Prelude.{◌≡◌, ℤ, [], ◌∷◌, pos, negsuc}
use Rattle.affc_rows.specs.Forms.{Affine}
use Rattle.affc_system.specs.Systems.{Rows, Met}
use Rattle.affc_system.specs.ElementPairs.{IsPairOf}
use Rattle.affc_system.specs.declared.pairs.PairSystem.{PairSystem}

-- a n + b i + c, where n is the parameter and i the other column
abbrev pub form : ℤ → ℤ → ℤ → Affine
form a b c = record { coefs = a ∷ b ∷ []; constant = c }

-- 0 <= i < n
abbrev pub below_n : Rows
below_n = record { columns = 2; rows = form (pos 0) (pos 1) (pos 0) ∷ form (pos 1) (negsuc 0) (negsuc 0) ∷ [] }

-- i and i + 1, for each i
pub record AreNeighbours (system : PairSystem) : Type 0 where
  pub points : system.system ≡ below_n
  pub first : system.x.items ≡ form (pos 0) (pos 1) (pos 0) ∷ []
  pub second : system.y.items ≡ form (pos 0) (pos 1) (pos 1) ∷ []

-- at n = 3
abbrev pub TwoAndThreeAreNeighbours : Type 0
TwoAndThreeAreNeighbours = (s : PairSystem) → AreNeighbours s → IsPairOf (s ∷ []) (pos 3 ∷ []) (pos 2 ∷ []) (pos 3 ∷ [])

abbrev pub AlsoTheOtherWayRound : Type 0
AlsoTheOtherWayRound = (s : PairSystem) → AreNeighbours s → IsPairOf (s ∷ []) (pos 3 ∷ []) (pos 3 ∷ []) (pos 2 ∷ [])

-- 3 and 4 are neighbours at n = 4, but not at 3
abbrev pub ThreeAndFourNeedAGreaterParameter : Type 0
ThreeAndFourNeedAGreaterParameter = (s : PairSystem) → AreNeighbours s
    → IsPairOf (s ∷ []) (pos 4 ∷ []) (pos 3 ∷ []) (pos 4 ∷ []) × (IsPairOf (s ∷ []) (pos 3 ∷ []) (pos 3 ∷ []) (pos 4 ∷ []) → ⊥)

abbrev pub NoneIsItsOwnNeighbour : Type 0
NoneIsItsOwnNeighbour = (s : PairSystem) → AreNeighbours s → IsPairOf (s ∷ []) (pos 3 ∷ []) (pos 2 ∷ []) (pos 2 ∷ []) → ⊥

-- the rows at n = 3 and i = 2, and at i = 3, where only the second one isn't met
abbrev pub RowsAreMetBelowN : Type 0
RowsAreMetBelowN = Met (pos 3 ∷ pos 2 ∷ []) below_n.rows × (Met (pos 3 ∷ pos 3 ∷ []) below_n.rows → ⊥)
