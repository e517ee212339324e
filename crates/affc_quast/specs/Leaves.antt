-- The leaves of a tree, each as the system of the points that lead to it.
use Rattle.std.specs.Prelude.{ℕ, suc, ℤ, pos, List, [], ◌∷◌, ◌++◌, map, length, Option, Some, None}
use Rattle.affc_rows.specs.Forms.{Affine}
use Rattle.affc_nest.specs.Divisions.{division_rows, quotient_range}
use Rattle.affc_nest.specs.Domains.{number_form, gap_row}
use Rattle.affc_order.specs.Posed.{Posed}
use Rattle.affc_quast.specs.Trees.{Tree, Test, Div, Source, Input}
pub use Rattle.affc_rows.specs.Vocabulary.{padded}

-- the row that says that a row isn't met: the form is below 0
abbrev pub negated : Affine → Affine
negated f = gap_row f (number_form (length f.coefs) (pos 0)) 1

-- a leaf: the columns there, the rows of the tests and divisions above it, each over the columns where it stands, those
-- divisions from the outermost, and the instance that it names
pub record Leaf : Type 0 where
  pub columns : ℕ
  pub rows : List Affine
  pub divisions : List (Affine × ℤ)
  pub named : Option Posed

-- the leaf behind rows more, and behind a division
abbrev pub behind : List Affine → Leaf → Leaf
behind rows l = record l { rows = rows ++ l.rows }

abbrev pub divided : (columns : ℕ) → Affine → ℤ → Leaf → Leaf
divided columns f by l = record l { rows = division_rows columns f by ++ l.rows; divisions = (f, by) ∷ l.divisions }

-- the leaves of a tree over so many columns, in order
abbrev pub leaves_of : (columns : ℕ) → Tree → List Leaf
leaves_of columns (Test f on off) = map (behind (f ∷ [])) (leaves_of columns on) ++ map (behind (negated f ∷ [])) (leaves_of columns off)
leaves_of columns (Div f by rest) = map (divided columns f by) (leaves_of (suc columns) rest)
leaves_of columns (Source s forms) = record { columns = columns; rows = []; divisions = []; named = Some (record { part = s; iterators = forms }) } ∷ []
leaves_of columns Input = record { columns = columns; rows = []; divisions = []; named = None } ∷ []

-- ---- Ranges

-- ranges, and behind them one for each quotient
abbrev pub path_ranges : List (ℤ × ℤ) → List (Affine × ℤ) → List (ℤ × ℤ)
path_ranges ranges [] = ranges
path_ranges ranges (d ∷ ds) = path_ranges (ranges ++ quotient_range ranges d.0 d.1 ∷ []) ds
