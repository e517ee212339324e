-- Sizes of forms and rows.
use Rattle.std.specs.Prelude.{◌⊎◌, ℕ, ◌+◌, ◌^◌, ◌<◌, ◌≤◌, List, length, slice_index_or, ℤ, pos, IsTrue, unsigned_abs}
use Rattle.std.specs.List.{All}
use Rattle.affc_rows.specs.Forms.{Affine}
use Rattle.affc_rows.specs.Sizes.{IsWithin}
use Rattle.affc_system.specs.Boxes.{box_magnitude}
use Rattle.affc_trace.specs.declared.schedule.TimeMap.{TimeMap}
use Rattle.affc_trace.specs.Law.{IsIn}
use Rattle.affc_trace.specs.Target.{IsMapOf, all_slight}
use Rattle.affc_nest.specs.Asked.{IsNest}
use Rattle.affc_nest.specs.declared.nest.Entry.{Entry}
use Rattle.affc_nest.specs.declared.nest.Nest.{Nest}

-- a statement that can have instances, with a map of its times that keeps the limits of schedules
pub record IsTimed (nest : Nest) (entry : Entry) (m : TimeMap) : Type 0 where
  pub is_nest : IsNest nest
  pub there : IsIn entry nest.entries
  pub alive : IsTrue entry.alive
  pub map_of : IsMapOf (length nest.params) (length entry.loops) (length m.forms) m
  pub few : length m.forms ≤ 12
  pub forms : IsTrue (all_slight m.forms)
  pub inverse : IsTrue (all_slight m.inverse)

-- ---- Rows that are printed

-- over the box the magnitudes of the row's terms sum to at most 2^62; coefficients within 2^40, and the constant within 2^59
pub record IsModest (ranges : List (ℤ × ℤ)) (row : Affine) : Type 0 where
  pub terms : box_magnitude row.coefs ranges + unsigned_abs row.constant ≤ 2 ^ 62
  pub coefs : All (λ c. unsigned_abs c ≤ 2 ^ 40) row.coefs
  pub constant : unsigned_abs row.constant ≤ 2 ^ 59

-- over the box the magnitudes of the row's terms sum to more than 2^62, or a coefficient is past 2^40, or the constant past 2^59
abbrev pub IsLarge : List (ℤ × ℤ) → Affine → Type 0
IsLarge ranges row =
    (2 ^ 62 < box_magnitude row.coefs ranges + unsigned_abs row.constant) ⊎ ((j : ℕ) × (2 ^ 40 < unsigned_abs (slice_index_or row.coefs j (pos 0)))) ⊎ (2 ^ 59 < unsigned_abs row.constant)

-- ---- Rows that are composed

-- a form of a schedule
abbrev pub IsSlight : ℕ → Affine → Type 0
IsSlight columns = IsWithin columns 256 (2 ^ 30)

-- a row of a domain, or a form of a schedule
abbrev pub IsNear : ℕ → Affine → Type 0
IsNear columns = IsWithin columns (2 ^ 17) (2 ^ 34)

-- a row over so many columns whose negation keeps the limits of a system's rows
abbrev pub IsPrintable : ℕ → Affine → Type 0
IsPrintable columns = IsWithin columns (2 ^ 40) (2 ^ 59)
