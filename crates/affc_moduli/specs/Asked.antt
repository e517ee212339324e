-- What is given for successive moduli, and what is asked for one of them.
use Rattle.std.specs.Prelude.{◌≡◌, ◌^◌, ℕ, ℤ, pos, List, length, slice_get, Option, Some, IfSome}
use Rattle.affc_split.specs.maximum.Regions.{IsAskable}
use Rattle.affc_split.specs.declared.maximum.region.Region.{Region}
use Rattle.affc_split.specs.declared.maximum.several.Found.{Found}
use Rattle.affc_basis.specs.declared.fold.Modulus.{Modulus}
use Rattle.affc_conflicts.specs.Conditions.{InContext}
use Rattle.affc_moduli.specs.declared.asked.Given.{Given}
use Rattle.affc_moduli.specs.declared.asked.Line.{Line}
use Rattle.affc_moduli.specs.declared.asked.AskedRow.{AskedRow}
use Rattle.affc_moduli.specs.declared.asked.Way.{Way}
use Rattle.affc_moduli.specs.declared.extremes.Sought.{Sought}
use Rattle.affc_moduli.specs.Ready.{AreReady}
use Rattle.affc_moduli.specs.Slices.{AreSlices}
use Rattle.affc_moduli.specs.Distances.{AreForward, AreBackward, IsFarthest}
use Rattle.affc_moduli.specs.Rows.{IsDone, IsKept}
use Rattle.affc_moduli.specs.Shown.{IsDistance, IsSought}

-- what is given keeps the conditions of successive moduli
pub record IsGiven (given : Given) : Type 0 where
  pub ready : AreReady given.context.now given.ranges.now given.extents.now given.rows.now given.pairs.now
  pub some : IfSome given.some.now (λ p. InContext given.context.now given.ranges.now p.items)

-- one of the rows, with a form for each system, forward and backward
pub record IsLine (given : Given) (line : Line) : Type 0 where
  pub there : slice_get given.rows.now line.k ≡ Some line.row.now
  pub fs_each : length line.fs.now ≡ length given.pairs.now
  pub gs_each : length line.gs.now ≡ length given.pairs.now
  pub forward : AreForward given.pairs.now line.row.now.coefs line.fs.now
  pub backward : AreBackward given.pairs.now line.row.now.coefs line.gs.now

-- the regions are the slice of the row with this number
abbrev pub AreSlicesOf : Given → ℕ → List Region → Type 0
AreSlicesOf given k regions = AreSlices given.context.now given.ranges.now given.rows.now k given.pairs.now regions

-- the modulus of a row is asked, over the regions of its slice
pub record IsAsked (asked : AskedRow) : Type 0 where
  pub given : IsGiven asked.given
  pub line : IsLine asked.given asked.line
  pub slices : AreSlicesOf asked.given asked.line.k asked.regions.now

-- one way of one of the systems
pub record IsWay (asked : AskedRow) (way : Way) : Type 0 where
  pub system : slice_get asked.given.pairs.now way.number ≡ Some way.system.now
  pub region : slice_get asked.regions.now way.number ≡ Some way.region.now
  pub askable : IsAskable way.region.now way.form.now (pos (2 ^ 53))
  pub distance : IsDistance asked.line.row.now.coefs way.system.now way.region.now way.form.now

-- ---- What is answered

-- the modulus is enough for the row, and has a mark, which is true
abbrev pub IsDoneFor : Given → Line → Modulus → Type 0
IsDoneFor given line m = IsDone given.context.now given.ranges.now given.pairs.now given.rows.now line.k line.row.now m

-- the modulus is enough for the row, and its mark is true, where it has one; it is a constant, where it has none
abbrev pub IsKeptFor : Given → Line → Modulus → Type 0
IsKeptFor given line m = IsKept given.context.now given.ranges.now given.pairs.now given.rows.now line.k line.row.now m

-- the greatest distance along the row, and so far
abbrev pub IsFarthestOf : AskedRow → Option Found → Type 0
IsFarthestOf asked found = IsFarthest asked.given.pairs.now asked.regions.now asked.line.row.now.coefs found

abbrev pub IsSoughtOf : AskedRow → (start : ℤ) → Sought → Type 0
IsSoughtOf asked start sought = IsSought asked.given.pairs.now asked.regions.now asked.line.row.now.coefs start sought
