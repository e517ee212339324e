-- Regions with the same points, and no more rows.
use Rattle.std.specs.Prelude.{◌≡◌, ℕ, ◌≤◌, ◌↔◌, ℤ, pos, negsuc, List, length, replicate}
use Rattle.affc_rows.specs.Forms.{Affine}
use Rattle.affc_split.specs.maximum.Regions.{InRegion}
use Rattle.affc_split.specs.declared.maximum.region.Region.{Region}
use Rattle.affc_moduli.specs.Slices.{AreParallel}

-- a region with the same points, and no more rows
pub record IsReduced (region reduced : Region) : Type 0 where
  pub columns : reduced.system.columns ≡ region.system.columns
  pub few : length reduced.system.rows ≤ length region.system.rows
  pub holds : (z : List ℤ) → InRegion reduced z ↔ InRegion region z

-- one for each
abbrev pub AreReduced : List Region → List Region → Type 0
AreReduced regions reduced = (length reduced ≡ length regions) × AreParallel IsReduced regions reduced

-- the row that is -1 everywhere
abbrev pub below_zero : (columns : ℕ) → Affine
below_zero columns = record { coefs = replicate columns (pos 0); constant = negsuc 0 }
