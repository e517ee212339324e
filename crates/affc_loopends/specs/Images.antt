-- Rows of a domain and forms of a schedule that make a system.
use Rattle.std.specs.Prelude.{ℕ, ◌+◌, ◌≤◌, List, length}
use Rattle.std.specs.List.{All}
use Rattle.affc_rows.specs.Forms.{Affine}
use Rattle.affc_loopends.specs.Sizes.{IsSlight, IsNear}

-- the rows of a domain, the forms of its times and their inverse, few enough and small enough for a system
pub record AreComposable (params : ℕ) (domain times inverse : List Affine) : Type 0 where
  pub few_params : params ≤ 4
  pub few_iterators : length inverse ≤ 6
  pub few_components : length times ≤ 12
  pub few_rows : length domain ≤ 134
  pub slight : All (IsSlight (params + length times)) inverse
  pub near_rows : All (IsNear (params + length inverse)) domain
  pub near_times : All (IsNear (params + length inverse)) times
