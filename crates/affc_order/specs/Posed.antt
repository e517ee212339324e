-- Instances by forms: what a system says of an instance, where its coordinates are forms over the system's columns.
use Rattle.std.specs.Prelude.{◌≡◌, ℕ, ℤ, List, length}
use Rattle.affc_rows.specs.Forms.{Affine, values_of, HaveColumns}
use Rattle.affc_ast.specs.declared.tree.Instance.{Instance}
pub use Rattle.affc_rows.specs.Vocabulary.{form_at}

-- a part, and a form for each of its coordinates, over columns of which the parameters are the first
pub record Posed : Type 0 where
  pub part : ℕ
  pub iterators : List Affine

-- the instance that is posed at a point
pub record IsPosed (point : List ℤ) (a : Posed) (i : Instance) : Type 0 where
  pub part : a.part ≡ i.statement
  pub iterators : values_of a.iterators point ≡ i.iterators
  pub columns : HaveColumns (length point) a.iterators
