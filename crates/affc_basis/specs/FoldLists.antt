-- Lists of folds of a program: what a plan of a compilation names.
use Rattle.std.specs.Prelude.{◌≡◌, ℕ, ◌+◌, List, length, map, slice_get, Some}
use Rattle.affc_rows.specs.Forms.{HaveColumns}
use Rattle.affc_ast.specs.declared.tree.ArrayId.{ArrayId}
use Rattle.affc_ast.specs.declared.tree.Decl.{Decl}
use Rattle.affc_ast.specs.declared.tree.Program.{Program}
use Rattle.affc_ast.specs.Meaning.{arrays_of}
use Rattle.affc_trace.specs.Law.{IsIn}
use Rattle.affc_trace.specs.Orders.{AreDistinct}
use Rattle.affc_trace.specs.Target.{numbers_in}
use Rattle.affc_basis.specs.declared.fold.Fold.{Fold}
use Rattle.affc_basis.specs.Folds.{forms_of}

-- a fold of a temporary: one row for each of its dimensions, and moduli over the number parameters alone
pub record IsFoldIn (program : Program) (array : ℕ) (fold : Fold) : Type 0 where
  pub number : ℕ
  pub decl : Decl
  pub stands : slice_get program.temps number ≡ Some decl
  pub behind : array ≡ length (arrays_of program.params) + number
  pub rows : length fold.basis.rows ≡ length decl.extents
  pub moduli : HaveColumns (numbers_in program.params) (forms_of fold.moduli)

-- such folds, at most one for each temporary
pub record AreFoldsIn (program : Program) (folds : List (ArrayId × Fold)) : Type 0 where
  pub different : AreDistinct (map (λ (f : ArrayId × Fold). f.0.0) folds)
  pub each : (array : ArrayId) (fold : Fold) → IsIn (array, fold) folds → IsFoldIn program array.0 fold
