-- A region with the gap from a form's value up to a ceiling as a column before its own: where the gap is least, the form is greatest.
use Rattle.std.specs.Prelude.{◌+◌, List, ◌∷◌, map, ℤ, pos, ◌-ℤ◌}
use Rattle.affc_rows.specs.Forms.{Affine}
use Rattle.affc_system.specs.Systems.{Rows}

-- the row with a column before its own, with this coefficient
abbrev pub behind : ℤ → Affine → Affine
behind first f = record { coefs = first ∷ f.coefs; constant = f.constant }

-- the system's points behind a number that is at least the gap
abbrev pub gap_system : Rows → Affine → (ceiling : ℤ) → Rows
gap_system system f ceiling = record {
  columns = system.columns + 1;
  rows = behind (pos 1) (record f { constant = f.constant -ℤ ceiling }) ∷ map (behind (pos 0)) system.rows;
}

-- the box with a range for the gap, where the form is above the floor
abbrev pub gap_box : List (ℤ × ℤ) → (floor ceiling : ℤ) → List (ℤ × ℤ)
gap_box ranges floor ceiling = (pos 0, (ceiling -ℤ floor) -ℤ pos 1) ∷ ranges
