-- What is known in the course of a search for a greatest value.
use Rattle.std.specs.Prelude.{◌≡◌, ℕ, ◌^◌, ◌<◌, ◌≤◌, List, slice_get, ℤ, ◌<ℤ◌, unsigned_abs, Option, Some, None}
use Rattle.affc_rows.specs.Forms.{Affine, value}
use Rattle.affc_split.specs.maximum.Regions.{InRegion, IsMeasure, IsBounded}
use Rattle.affc_split.specs.declared.maximum.region.Region.{Region}
use Rattle.affc_split.specs.declared.maximum.search.Best.{Best}
use Rattle.affc_split.specs.declared.maximum.search.Objective.{Objective}
use Rattle.affc_split.specs.declared.maximum.search.Search.{Search}

-- what is reached so far: the floor, or a value above it that is attained
abbrev pub IsReached : Region → Affine → (floor low : ℤ) → Option Best → Type 0
IsReached region form floor low None = low ≡ floor
IsReached region form floor low (Some b) = (b.value ≡ low) × (floor <ℤ low) × InRegion region b.point.items × (value form b.point.items ≡ low)

-- a form over the region's columns that is nowhere above the ceiling, and two ends within 2^55
pub record IsObjective (objective : Objective) : Type 0 where
  pub measure : IsMeasure objective.region.now.system.columns objective.form.now
  pub floor_near : unsigned_abs objective.floor ≤ 2 ^ 55
  pub ceiling_near : unsigned_abs objective.ceiling ≤ 2 ^ 55
  pub bounded : IsBounded objective.region.now objective.form.now objective.ceiling

-- a search: the greatest value is at most the high one, and the low one is reached
pub record IsSearch (search : Search) : Type 0 where
  pub objective : IsObjective search.objective
  pub bounded : IsBounded search.objective.region.now search.objective.form.now search.high
  pub reached : IsReached search.objective.region.now search.objective.form.now search.objective.floor search.low search.best
  pub low_near : unsigned_abs search.low ≤ 2 ^ 55
  pub high_near : unsigned_abs search.high ≤ 2 ^ 55

-- ---- Several regions

-- no form of the first n is anywhere in its region greater
abbrev pub AreBoundedBefore : ℕ → List Region → List Affine → (most : ℤ) → Type 0
AreBoundedBefore n regions forms most = (i : ℕ) (r : Region) (f : Affine) → i < n → slice_get regions i ≡ Some r → slice_get forms i ≡ Some f → IsBounded r f most
