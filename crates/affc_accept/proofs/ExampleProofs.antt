-- The examples of layouts and bases.
use Rattle.std.proofs.Common.{◌≡◌, ℕ, ℤ, pos, negsuc, List, [], ◌∷◌, refl, sym, ap, ◌∙◌, inl, inr, arith}
use Rattle.std.proofs.lemmas.Option.{same_Some}
use Rattle.affc_rows.specs.Forms.{Affine}
use Rattle.affc_ast.specs.declared.tree.Role.TheVariants.{Temp}
use Rattle.affc_basis.specs.Examples.{whole}
use Rattle.affc_basis.specs.Listed.{Shape, shape_of}
use Rattle.affc_basis.specs.Turned.{turned}
use Rattle.affc_nest.specs.declared.nest.ArrayInfo.{ArrayInfo}
use Rattle.affc_accept.specs.Examples.{plain_number, DeadStoresNothing, ScalarHasNoFold, GivenIsKept, WholeIsKept, OtherModulusIsNot, OtherBasisIsNot, NoneIsGiven, IteratorsComeFirst}

pub dead_stores_nothing : DeadStoresNothing
dead_stores_nothing = refl

pub scalar_has_no_fold : ScalarHasNoFold
scalar_has_no_fold = refl

pub given_is_kept : GivenIsKept
given_is_kept = inl refl

pub whole_is_kept : WholeIsKept
whole_is_kept = inr (record { info = record { role = Temp; extents = plain_number 3 ∷ [] }; declared = refl; unit = refl; moduli = refl })

pub none_is_given : NoneIsGiven
none_is_given = tt

coefs_in : List Affine → List ℤ
coefs_in [] = []
coefs_in (f ∷ fs) = f.coefs

differ : shape_of whole ≡ shape_of turned → ⊥
unfolding coefs_in
differ e = let same : pos 1 ∷ [] ≡ negsuc 0 ∷ [] = ap (λ (s : Shape). coefs_in s.rows) e in cc

constant_of : List Affine → ℤ
constant_of [] = pos 0
constant_of (f ∷ fs) = f.constant

not_three : (fs : List Affine) → fs ≡ plain_number 2 ∷ [] → fs ≡ plain_number 3 ∷ [] → ⊥
unfolding constant_of
not_three fs e f =
    let same : pos 2 ≡ pos 3 = sym (ap constant_of e) ∙ ap constant_of f in
    let n : ◌≡◌ {A = ℕ} 2 3 = cc in
    absurd (omega (arith, n))

pub other_modulus_is_not : OtherModulusIsNot
other_modulus_is_not (inl e) = differ e
other_modulus_is_not (inr w) =
    let extents : plain_number 3 ∷ [] ≡ w.info.extents = ap (λ (a : ArrayInfo). a.extents) (same_Some (record { role = Temp; extents = plain_number 3 ∷ [] }) w.info w.declared) in
    not_three w.info.extents (sym w.moduli) (sym extents)

pub other_basis_is_not : OtherBasisIsNot
other_basis_is_not (inl e) = differ (sym e)
other_basis_is_not (inr w) = differ (sym w.unit)

pub iterators_come_first : IteratorsComeFirst
iterators_come_first = refl
