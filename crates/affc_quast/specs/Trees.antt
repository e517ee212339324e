-- Last-write trees: which instance a tree names at a point. They are the quasi-affine selection trees of Feautrier's
-- dataflow analysis (1991).
use Rattle.std.specs.Prelude.{ℕ, suc, max, ℤ, pos, int_le, if◌then◌else◌, List, [], ◌∷◌, ◌++◌, Option, Some, None}
use Rattle.affc_rows.specs.Forms.{Affine, value}
use Rattle.affc_ast.specs.declared.tree.Instance.{Instance}
use Rattle.affc_ast.specs.Index.{floor_of}
use Rattle.affc_order.specs.Posed.{Posed}
use Rattle.affc_rows.specs.Forms.{values_of}

-- a test whether a form is at least 0; a quotient, rounded down, that is a column more; an instance by its part and forms
-- for its coordinates; or none
pub data Tree : Type 0 where
  Test : (form : Affine) → (on off : Tree) → Tree
  Div : (form : Affine) → (by : ℤ) → (rest : Tree) → Tree
  Source : (part : ℕ) → (forms : List Affine) → Tree
  Input : Tree

-- the instance that is posed there, if one is
abbrev pub instance_at : Option Posed → List ℤ → Option Instance
instance_at None xs = None
instance_at (Some a) xs = Some (record { statement = a.part; iterators = values_of a.iterators xs })

-- the instance that a tree names at a point: that of the leaf to which the point leads
abbrev pub named_at : Tree → List ℤ → Option Instance
named_at (Test f on off) xs = if int_le (pos 0) (value f xs) then named_at on xs else named_at off xs
named_at (Div f by rest) xs = named_at rest (xs ++ floor_of (value f xs) by ∷ [])
named_at (Source s forms) xs = instance_at (Some (record { part = s; iterators = forms })) xs
named_at Input xs = instance_at None xs

-- the quotients on the way to that leaf, outermost first
abbrev pub quotients_at : Tree → List ℤ → List ℤ
quotients_at (Test f on off) xs = if int_le (pos 0) (value f xs) then quotients_at on xs else quotients_at off xs
quotients_at (Div f by rest) xs = floor_of (value f xs) by ∷ quotients_at rest (xs ++ floor_of (value f xs) by ∷ [])
quotients_at (Source s forms) xs = []
quotients_at Input xs = []

-- how many tests and divisions stand above a leaf at most, and how many divisions
abbrev pub depth_of : Tree → ℕ
depth_of (Test f on off) = suc (max (depth_of on) (depth_of off))
depth_of (Div f by rest) = suc (depth_of rest)
depth_of (Source s forms) = 0
depth_of Input = 0

abbrev pub divisions_of : Tree → ℕ
divisions_of (Test f on off) = max (divisions_of on) (divisions_of off)
divisions_of (Div f by rest) = suc (divisions_of rest)
divisions_of (Source s forms) = 0
divisions_of Input = 0
