-- Limits of forms.
use Rattle.std.specs.Prelude.{ℕ, ◌^◌}
use Rattle.affc_rows.specs.Forms.{Affine}
use Rattle.affc_rows.specs.Sizes.{IsWithin}

-- a form over so many columns, whose difference to another is within the limits of a row
abbrev pub IsMild : (columns : ℕ) → Affine → Type 0
IsMild columns form = IsWithin columns (2 ^ 38) (2 ^ 58) form
