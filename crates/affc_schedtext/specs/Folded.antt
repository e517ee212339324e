-- What the bases of a plan are.
use Rattle.std.specs.Prelude.{◌≡◌, ℕ, ◌+◌, List, length, slice_get, Some}
use Rattle.affc_rows.specs.Forms.{Affine}
use Rattle.affc_ast.specs.declared.tree.ArrayId.{ArrayId}
use Rattle.affc_ast.specs.declared.tree.Decl.{Decl}
use Rattle.affc_ast.specs.declared.tree.Program.{Program}
use Rattle.affc_ast.specs.Meaning.{arrays_of}
use Rattle.affc_basis.specs.declared.basis.Basis.{Basis}

-- a basis of a temporary: one row for each of its dimensions
pub record IsBasisIn (program : Program) (array : ℕ) (basis : Basis) : Type 0 where
  pub number : ℕ
  pub decl : Decl
  pub stands : slice_get program.temps number ≡ Some decl
  pub behind : array ≡ length (arrays_of program.params) + number
  pub rows : length basis.rows ≡ length decl.extents

-- what a fold says: the array, the rows of its basis and their inverse
abbrev pub fold_said : ArrayId × Basis → ℕ × List Affine × List Affine
fold_said f = (f.0.0, f.1.rows, f.1.inverse)
