-- Rows of ends, and bounds of components, that can be printed.
use Rattle.std.specs.Prelude.{◌≡◌, ℕ, suc, List, [], ◌∷◌, length}
use Rattle.std.specs.List.{All}
use Rattle.affc_rows.specs.Forms.{Affine}
use Rattle.affc_loopends.specs.declared.bounds.Bounds.{Bounds}
use Rattle.affc_loopends.specs.declared.bounds.Bounds.TheVariants.{Between, Loose}
use Rattle.affc_loops.specs.terms.Sizes.{IsModest}

-- a row over the columns up to this one
pub record IsEndRow (column : ℕ) (row : Affine) : Type 0 where
  pub width : length row.coefs ≡ suc column
  pub modest : IsModest row

-- the rows of both ends, if there are any
abbrev pub HasEndRows : (column : ℕ) → Bounds → Type 0
HasEndRows column (Between lower upper) = All (IsEndRow column) lower.items × All (IsEndRow column) upper.items
HasEndRows column (Loose why) = Unit {0}

-- of one column after the other
abbrev pub HaveEndRows : (column : ℕ) → List Bounds → Type 0
HaveEndRows column [] = Unit {0}
HaveEndRows column (b ∷ bs) = HasEndRows column b × HaveEndRows (suc column) bs
