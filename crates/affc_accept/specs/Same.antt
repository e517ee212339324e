-- Forms, bases and arrays left whole, as they are compared.
use Rattle.std.specs.Prelude.{Bool, true, false, ◌&&◌, ◌||◌, List, length, Option, Some, None, slice_get}
use Rattle.std.specs.Cmp.Lexicographic.{pointwise}
use Rattle.std.specs.Ordering.{int_eq}
use Rattle.affc_rows.specs.Forms.{Affine}
use Rattle.affc_ast.specs.declared.tree.ArrayId.{ArrayId}
use Rattle.affc_basis.specs.declared.basis.Basis.{Basis}
use Rattle.affc_basis.specs.Listed.{Shape, shape_of}
use Rattle.affc_nest.specs.declared.nest.ArrayInfo.{ArrayInfo}
use Rattle.affc_nest.specs.declared.nest.Nest.{Nest}
use Rattle.affc_life.specs.Folding.{given_for}
use Rattle.affc_certvalue.specs.declared.fold.fold.CertFold.{CertFold}
use Rattle.affc_certvalue.specs.declared.fold.fold.CertModulus.{CertModulus}
use Rattle.affc_accept.specs.Bases.{identity}

abbrev pub same_form : Affine → Affine → Bool
same_form f g = int_eq f.constant g.constant && pointwise int_eq f.coefs g.coefs

abbrev pub same_forms : List Affine → List Affine → Bool
same_forms fs gs = pointwise same_form fs gs

abbrev pub same_shape : Shape → Shape → Bool
same_shape a b = same_forms a.rows b.rows && same_forms a.inverse b.inverse

abbrev pub are_extents : List CertModulus → List Affine → Bool
are_extents ms es = pointwise (λ (m : CertModulus) (e : Affine). same_form m.form e) ms es

abbrev pub is_identity : Shape → Bool
is_identity s = same_shape s (identity (length s.rows))

abbrev pub is_whole_of : Option ArrayInfo → CertFold → Bool
is_whole_of None c = false
is_whole_of (Some info) c = are_extents c.moduli info.extents && is_identity (shape_of c.basis)

abbrev pub is_whole : Nest → CertFold → Bool
is_whole nest c = is_whole_of (slice_get nest.arrays c.array.0) c

abbrev pub has_basis : Option Shape → Nest → CertFold → Bool
has_basis None nest c = true
has_basis (Some shape) nest c = same_shape (shape_of c.basis) shape || is_whole nest c

abbrev pub keeps_basis : Nest → (bases : List (ArrayId × Basis)) → CertFold → Bool
keeps_basis nest bases c = has_basis (given_for bases c.array.0 (length c.basis.rows)) nest c
