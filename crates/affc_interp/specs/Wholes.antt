-- Conditions on the parameters, whose sides are read as whole numbers of any size.
use Rattle.std.specs.Prelude.{◌≡◌, ℤ, Bool, true, false, ◌&&◌, List, Option, Some, None}
use Rattle.affc_ast.specs.declared.tree.Compare.{Compare}
use Rattle.affc_ast.specs.Fits.{Whole, whole_of, holds}

-- the value, or none where a divisor in the expression is below 1
abbrev pub IsRead : Option ℤ → Whole → Type 0
IsRead (Some z) w = (w.defined ≡ true) × (w.value ≡ z)
IsRead None w = w.defined ≡ false

-- both sides have a value, and it holds
abbrev pub is_met : Compare → (p : List ℤ) → Bool
is_met c p = (whole_of c.left p).defined && (whole_of c.right p).defined && holds c p
