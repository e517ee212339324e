-- Trees that are right under the tests and divisions above them.
use Rattle.std.specs.Prelude.{◌≡◌, ℕ, suc, ℤ, ◌≤ℤ◌, List, [], ◌++◌, map, length, drop, Option}
use Rattle.std.specs.List.{All}
use Rattle.affc_rows.specs.Forms.{Affine, value}
use Rattle.affc_system.specs.Boxes.{InBox}
use Rattle.affc_system.specs.Systems.{Rows, Met}
use Rattle.affc_ast.specs.Index.{floor_of}
use Rattle.affc_ast.specs.declared.tree.Program.{Program}
use Rattle.affc_nest.specs.Questions.{widened}
use Rattle.affc_nest.specs.declared.nest.Access.{Access}
use Rattle.affc_nest.specs.declared.nest.Entry.{Entry}
use Rattle.affc_nest.specs.declared.nest.Nest.{Nest}
use Rattle.affc_nest.specs.Nests.{nest_of}
use Rattle.affc_nest.specs.Divisions.{division_rows}
use Rattle.affc_order.specs.Posed.{Posed}
use Rattle.affc_quast.specs.Leaves.{Leaf}
use Rattle.affc_quast.specs.Limits.{narrow, IsTreeWithin}
use Rattle.affc_quast.specs.Paths.{IsNear}
use Rattle.affc_quast.specs.Trees.{Tree, named_at, quotients_at}
use Rattle.affc_flow.specs.Laws.{Loads, IsSourceOf}
use Rattle.affc_flow.specs.Questions.{Question}
use Rattle.affc_dataflow.specs.declared.asked.Question as held

-- a question in code
abbrev pub asked : held.Question → Question
asked q = record { system = q.system; ranges = q.ranges }

-- the leaf that names this under a path, which begins with the rows of the domain of the load's part
abbrev pub leaf_under : Entry → (path : Rows) → Option Posed → Leaf
leaf_under e path named = record { columns = path.columns; rows = drop (length e.domain.rows) path.rows; divisions = []; named = named }

-- what is to be said at one instance, with these quotients
pub record IsRightWith (program : Program) (p iterators quotients : List ℤ) (e : Entry) (x : Access) (tree : Tree) : Type 0 where
  pub source : IsSourceOf program p iterators e x (named_at tree ((p ++ iterators) ++ quotients))
  pub near : All IsNear (quotients_at tree ((p ++ iterators) ++ quotients))

-- a tree within the limits, with so many tests and divisions above a leaf at most, and so many divisions, that names the source
-- of the load at each instance that meets the path in the ranges, with any quotients
pub record CoversOn (nest : Nest) (e : Entry) (x : Access) (path : Rows) (ranges : List (ℤ × ℤ)) (left divisions : ℕ) (tree : Tree) : Type 0 where
  pub right : (program : Program) (p iterators quotients : List ℤ) → nest ≡ nest_of program → Loads program p iterators e x → length ((p ++ iterators) ++ quotients) ≡ path.columns
      → InBox ranges ((p ++ iterators) ++ quotients) → Met ((p ++ iterators) ++ quotients) path.rows → IsRightWith program p iterators quotients e x tree
  pub within : IsTreeWithin narrow left divisions nest x.array.0 path.columns tree

-- ---- Behind a division

-- the path behind the division of a form: the quotient is a column more
abbrev pub divided_path : Rows → Affine → (by : ℤ) → Rows
divided_path path form by = record { columns = suc path.columns; rows = map (widened 1) path.rows ++ division_rows path.columns form by }

-- a range that holds the quotients of a form over these ranges, its ends within 2^60
pub record IsQuotientRange (ranges : List (ℤ × ℤ)) (form : Affine) (by : ℤ) (range : ℤ × ℤ) : Type 0 where
  pub holds : (xs : List ℤ) → InBox ranges xs → (range.0 ≤ℤ floor_of (value form xs) by) × (floor_of (value form xs) by ≤ℤ range.1)
  pub near : IsNear range.0 × IsNear range.1
