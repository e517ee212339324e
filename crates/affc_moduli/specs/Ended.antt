-- Where the budget ended, and what is known of a row's distances then.
use Rattle.std.specs.Prelude.{◌≡◌, ℕ, ◌^◌, ◌≤◌, ℤ, pos, ◌≤ℤ◌, List, Some}
use Rattle.affc_rows.specs.Forms.{Affine}
use Rattle.affc_split.specs.Budgets.{Account}
use Rattle.affc_system.specs.declared.pairs.PairSystem.{PairSystem}
use Rattle.affc_split.specs.maximum.Searches.{AreBoundedBefore}
use Rattle.affc_split.specs.declared.maximum.region.Region.{Region}
use Rattle.affc_moduli.specs.declared.extremes.Reach.{Reach}
use Rattle.affc_moduli.specs.declared.extremes.Reach.TheVariants.{Farthest, Within}
use Rattle.affc_moduli.specs.Distances.{AreApartWithin, IsFarthest}

-- what is spent reaches the limit, so no unit is left
pub record IsSpent (budget : Account) : Type 0 where
  pub most : ℕ
  pub limit : budget.limit ≡ Some most
  pub reached : most ≤ budget.spent

-- the forms are nowhere greater in the first n regions
pub record IsCeiling (n : ℕ) (regions : List Region) (fs gs : List Affine) (most : ℤ) : Type 0 where
  pub natural : pos 0 ≤ℤ most
  pub near : most ≤ℤ pos (2 ^ 53)
  pub forward : AreBoundedBefore n regions fs most
  pub backward : AreBoundedBefore n regions gs most

-- no elements lie farther apart
abbrev pub IsFar : List PairSystem → List Region → List ℤ → (most : ℤ) → Type 0
IsFar systems regions cs most = (n : ℕ) × (most ≡ pos n) × (n ≤ 2 ^ 53) × AreApartWithin systems regions cs n

-- the greatest distance, or one beyond which no elements lie
abbrev pub IsReach : List PairSystem → List Region → List ℤ → Reach → Type 0
IsReach systems regions cs (Farthest shown) = IsFarthest systems regions cs shown.found
IsReach systems regions cs (Within bound) = IsFar systems regions cs bound.most

-- the greatest distance is found, unless no unit is left
abbrev pub IsFoundOr : Account → Reach → Type 0
IsFoundOr budget (Farthest shown) = Unit {0}
IsFoundOr budget (Within bound) = IsSpent budget
