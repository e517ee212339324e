-- Remainders are read, and places lie within their moduli.
use Rattle.std.proofs.Common.{◌≡◌, ℕ, suc, ◌+◌, ℤ, pos, ◌≤ℤ◌, ◌<ℤ◌, true, ◌&&◌, int_le, int_lt, List, [], ◌∷◌, length, map, Some, Ok, Err, refl, sym, ap, subst, ◌∙◌, arith}
use Rattle.std.specs.Prelude.{slice_get}
use Rattle.std.specs.Int.{int_rem_euclid}
use Rattle.affc_rows.specs.Forms.{Affine, dot, value}
use Rattle.affc_ast.specs.declared.tree.Ix.TheVariants.{Mod}
use Rattle.affc_ast.specs.Cause.{Overflow}
use Rattle.affc_ast.specs.Fits.{whole, whole_step}
use Rattle.affc_ast.specs.Index.{index_step, index_value, nodes_of_ix, remainder_of, divided}
use Rattle.affc_ast.specs.Values.{is_within}
use Rattle.affc_ast.proofs.Steps.{mod_here}
use Rattle.affc_domain.proofs.Lists.{true_both, le_true, lt_true, length_map}
use Rattle.affc_safe.proofs.SafeLaws.{else_is, not_below_one}
use Rattle.affc_safe.proofs.Wants.{bind_to}
use Rattle.affc_basis.specs.Folds.{forms_of}
use Rattle.affc_basis.specs.Moduli.{remainders}
use Rattle.affc_basis.proofs.Remainders as division
use Rattle.affc_foldloops.specs.Laws.{RemainderIsRead, PlaceLiesWithin}

remainder_within : (z d : ℤ) → pos 1 ≤ℤ d → (pos 0 ≤ℤ int_rem_euclid z d) × (int_rem_euclid z d <ℤ d)
remainder_within z d h = let r = division.divided z d h in (r.low, r.high)

pub remainder_is_read : RemainderIsRead
remainder_is_read a b names ra rb least =
    let w : whole (Mod a b) names ≡ int_rem_euclid (whole a names) (whole b names) = ap (λ f. (f names).value) (mod_here whole_step a b) in
    let q = remainder_within (whole a names) (whole b names) least in (
      λ node.
          ap (λ i. i.value node names) (mod_here index_step a b)
          ∙ bind_to (index_value a (node + 1) names) (whole a names) _ _ (ra (node + 1))
          (bind_to (index_value b (node + 1 + nodes_of_ix a) names) (whole b names) (λ y. divided node remainder_of (whole a names) y) (remainder_of (whole a names) (whole b names)) (rb _)
          (else_is (int_lt (whole b names) (pos 1)) (Err (Overflow node)) (Ok (remainder_of (whole a names) (whole b names))) (not_below_one (whole b names) (int_lt (whole b names) (pos 1)) refl least)))
          ∙ ap (λ z. Ok z) (sym w),
      w,
      subst (λ z. pos 0 ≤ℤ z) (sym w) q.0,
      subst (λ z. z <ℤ whole b names) (sym w) q.1,
    )

places_within : (p x : List ℤ) (rows moduli : List Affine) → length moduli ≡ length rows → ((k : ℕ) (b : Affine) → slice_get moduli k ≡ Some b → pos 1 ≤ℤ value b p)
    → is_within (remainders p rows moduli x) (map (λ b. value b p) moduli) ≡ true
places_within p x [] [] e h = refl
places_within p x [] (b ∷ bs) e h = absurd (omega arith)
places_within p x (row ∷ rows) [] e h = absurd (omega arith)
places_within p x (row ∷ rows) (b ∷ bs) e h =
    let z = int_rem_euclid (dot row.coefs x) (value b p) in
    let q = remainder_within (dot row.coefs x) (value b p) (h 0 b refl) in
    true_both (int_le (pos 0) z && int_lt z (value b p)) (is_within (remainders p rows bs x) (map (λ b. value b p) bs))
    (true_both (int_le (pos 0) z) (int_lt z (value b p)) (le_true (pos 0) z q.0) (lt_true z (value b p) q.1))
    (places_within p x rows bs (omega arith) (λ k c g. h (suc k) c g))

pub place_lies_within : PlaceLiesWithin
place_lies_within fold p x h = places_within p x fold.basis.rows (forms_of fold.moduli) (length_map (λ m. m.form) fold.moduli ∙ fold.one_each) h
