-- Forms whose differences stay within the code's numbers.
use Rattle.std.specs.Prelude.{ℕ, ◌^◌}
use Rattle.affc_rows.specs.Forms.{Affine}
use Rattle.affc_rows.specs.Sizes.{IsWithin}

-- a form over so many columns, with entries within 2^110
abbrev pub IsWide : (columns : ℕ) → Affine → Type 0
IsWide columns = IsWithin columns (2 ^ 110) (2 ^ 110)
