-- The least of the places that come after so many.
use Rattle.std.specs.Prelude.{ℕ, ◌-◌, ◌==◌, None}
use Rattle.affc_limits.specs.declared.rests.Rest.{Rest}
use Rattle.affc_limits.specs.Places.{lesser, place_if}

abbrev pub rest_of : (left : ℕ) → Rest
rest_of left = record { left = left; found = None }

-- one place more
abbrev pub next : Rest → (at : ℕ) → Rest
next r at = record { left = r.left - 1; found = lesser r.found (place_if (r.left == 0) at) }
