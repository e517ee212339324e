-- What keeps the way of a point through a tree within machine numbers.
use Rattle.std.specs.Prelude.{◌≡◌, ◌^◌, ◌≤◌, ℤ, pos, ◌≤ℤ◌, int_le, unsigned_abs, Bool, true, false, List, [], ◌∷◌, ◌++◌, length}
use Rattle.std.specs.List.{All}
use Rattle.affc_rows.specs.Forms.{Affine, value, magnitude}
use Rattle.affc_ast.specs.Index.{floor_of}
use Rattle.affc_quast.specs.Trees.{Tree, Test, Div, Source, Input}

-- within 2^60
abbrev pub IsNear : ℤ → Type 0
IsNear x = unsigned_abs x ≤ 2 ^ 60

-- the form has a coefficient for each column of the point, and the terms of its value there sum to at most 2^126 in magnitude
pub record HasValue (form : Affine) (point : List ℤ) : Type 0 where
  pub width : length form.coefs ≡ length point
  pub fits : magnitude form point ≤ 2 ^ 126

-- an iterator's form and its value
pub record HasNearValue (point : List ℤ) (form : Affine) : Type 0 where
  pub fits : HasValue form point
  pub near : IsNear (value form point)

-- a quotient that is a column more
pub record HasQuotient (form : Affine) (by : ℤ) (point : List ℤ) : Type 0 where
  pub fits : HasValue form point
  pub some : pos 1 ≤ℤ by
  pub near : IsNear (floor_of (value form point) by)

-- the side of a test to which the point goes
abbrev pub OnSide : Bool → (on off : Type 0) → Type 0
OnSide true on off = on
OnSide false on off = off

-- all forms on the way of a point have values there, quotients and iterators near ones
abbrev pub LeadsNear : Tree → List ℤ → Type 0
LeadsNear (Test f on off) xs = HasValue f xs × OnSide (int_le (pos 0) (value f xs)) (LeadsNear on xs) (LeadsNear off xs)
LeadsNear (Div f by rest) xs = HasQuotient f by xs × LeadsNear rest (xs ++ floor_of (value f xs) by ∷ [])
LeadsNear (Source s forms) xs = All (HasNearValue xs) forms
LeadsNear Input xs = Unit {0}
