-- A column that is the quotient of a form by a number, rounded down: its rows, and its range.
use Rattle.std.specs.Prelude.{ℕ, ◌^◌, ℤ, pos, neg_ℤ, int_lt, true, false, if◌then◌else◌, List, [], ◌∷◌, ◌++◌, replicate}
use Rattle.affc_rows.specs.Forms.{Affine, value}
use Rattle.affc_rows.specs.Vocabulary.{widened}
use Rattle.affc_system.specs.Boxes.{corner}
use Rattle.affc_ast.specs.declared.tree.Rel.TheVariants.{Less, LessEqual}
use Rattle.affc_ast.specs.Index.{floor_of}
use Rattle.affc_nest.specs.Domains.{compare_rows}

-- so many times the column behind so many others, and a number
abbrev pub multiple : (columns : ℕ) → (by constant : ℤ) → Affine
multiple columns by constant = record { coefs = replicate columns (pos 0) ++ by ∷ []; constant = constant }

-- the column behind so many is the quotient of the form, rounded down: by times it is at most the form, and the form is less
-- than by times the next number
abbrev pub division_rows : (columns : ℕ) → Affine → ℤ → List Affine
division_rows columns f by = compare_rows LessEqual (multiple columns by (pos 0)) (widened 1 f) ++ compare_rows Less (widened 1 f) (multiple columns by by)

-- a number held within n
abbrev pub held : ℕ → ℤ → ℤ
held n z = if int_lt z (neg_ℤ (pos n)) then neg_ℤ (pos n) else (if int_lt (pos n) z then pos n else z)

-- what a quotient of a form over these ranges can be, with ends held within 2^60
abbrev pub quotient_range : List (ℤ × ℤ) → Affine → ℤ → ℤ × ℤ
quotient_range ranges f by = (held (2 ^ 60) (floor_of (value f (corner false f.coefs ranges)) by), held (2 ^ 60) (floor_of (value f (corner true f.coefs ranges)) by))
