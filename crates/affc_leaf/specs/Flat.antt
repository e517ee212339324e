-- What splits on forms that take few values find of a box: a proof that it has no point, or a point of which nothing is said.
use Rattle.std.specs.Prelude.{ℕ, List}
use Rattle.affc_rows.specs.Forms.{Affine}
use Rattle.affc_system.specs.Systems.{Rows}
use Rattle.affc_simplex.specs.declared.bounds.Bound.{Bound}
use Rattle.affc_leaf.specs.BoxCuts.{IsEmptyWith}
use Rattle.affc_leaf.specs.Parts.{IsEmpty}
use Rattle.affc_leaf.specs.declared.flat.Met.{Met}
use Rattle.affc_leaf.specs.declared.flat.Met.TheVariants.{Empty, Point}

-- a proof that the box has no point, if it is one
abbrev pub IsMet : Rows → List Bound → ℕ → Met → Type 0
IsMet system bounds next (Empty proof) = IsEmpty system bounds next proof.value
IsMet system bounds next (Point point) = Unit {0}

-- a proof that no point of the box meets these further rows, if it is one
abbrev pub IsMetWith : Rows → List Bound → ℕ → List Affine → Met → Type 0
IsMetWith system bounds next cuts (Empty proof) = IsEmptyWith system bounds next cuts proof.value
IsMetWith system bounds next cuts (Point point) = Unit {0}

-- a point is found
abbrev pub IsMetPoint : Met → Type 0
IsMetPoint (Empty proof) = ⊥
IsMetPoint (Point point) = Unit {0}
