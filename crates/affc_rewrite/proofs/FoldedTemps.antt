-- The temporaries of a folded program: their extents are at least 1 and are read, and are the moduli.
use Rattle.std.proofs.Common.{◌≡◌, ℕ, zero, suc, ◌+◌, ◌^◌, ◌≤◌, ℤ, pos, ◌≤ℤ◌, List, [], ◌∷◌, length, get_or, map, Option, Some, None, refl, sym, ap, subst, ◌∙◌, inl, inr, arith}
use Rattle.std.specs.Prelude.{slice_get}
use Rattle.affc_rows.specs.Forms.{Affine, value}
use Rattle.affc_ast.specs.declared.tree.ArrayId.{ArrayId}
use Rattle.affc_ast.specs.declared.tree.Decl.{Decl}
use Rattle.affc_ast.specs.declared.tree.Ix.{Ix}
use Rattle.affc_ast.specs.Fits.{whole}
use Rattle.affc_trace.specs.Law.{IsIn}
use Rattle.affc_trace.proofs.LastStores.{append_nil}
use Rattle.affc_domain.specs.Arrays.{extents_at}
use Rattle.affc_safe.specs.Overflow.{IsReadable, AreReadable}
use Rattle.affc_basis.specs.declared.fold.Fold.{Fold}
use Rattle.affc_basis.specs.Bases.{AreWithin}
use Rattle.affc_basis.specs.Folds.{forms_of, fold_of}
use Rattle.affc_basis.specs.Moduli.{IsModulus, ArePositive}
use Rattle.affc_foldloops.specs.Refolds.{AreSized, extents_by}
use Rattle.affc_rewrite.specs.Rewrite.{printed, at_work, decl_by, decls_from}
use Rattle.affc_rewrite.proofs.WholeFolds.{works}
use Rattle.affc_rewrite.proofs.PlaceComponents.{modulus_is}

-- the extents are read and at least 1
abbrev pub IsSized : (p : List ℤ) → List Ix → Type 0
IsSized p es = AreReadable es p × ((e : Ix) → IsIn e es → pos 1 ≤ℤ whole e p)

module _ (p : List ℤ) (first : ℕ) (at_first : first ≡ length p) (few : length p ≤ 4) (near_p : AreWithin (2 ^ 24) p) where
  modulus_here : (b : Affine) → IsModulus (length p) b → (whole (printed first b) p ≡ value b p) × IsReadable (printed first b) p
  modulus_here b is = subst (λ q. (whole (printed first b) q ≡ value b p) × IsReadable (printed first b) q) (append_nil p) (modulus_is p first at_first few near_p b [] is)

  moduli_here : (bs : List Affine) → ((j : ℕ) (b : Affine) → slice_get bs j ≡ Some b → IsModulus (length p) b) → map (λ e. whole e p) (map (printed first) bs) ≡ map (λ b. value b p) bs
  moduli_here [] h = refl
  moduli_here (b ∷ bs) h =
      ap (λ z. z ∷ map (λ e. whole e p) (map (printed first) bs)) (modulus_here b (h 0 b refl)).0 ∙ ap (λ zs. value b p ∷ zs) (moduli_here bs (λ j c e. h (suc j) c e))

  moduli_sized : (bs : List Affine) → ((j : ℕ) (b : Affine) → slice_get bs j ≡ Some b → IsModulus (length p) b) → ArePositive p bs → IsSized p (map (printed first) bs)
  moduli_sized [] h positive = (tt, λ e i. absurd i)
  moduli_sized (b ∷ bs) h positive =
      let here = modulus_here b (h 0 b refl) in
      let rest = moduli_sized bs (λ j c e. h (suc j) c e) (λ j c e. positive (suc j) c e) in
      ((here.1, rest.0), least here.0 rest.1)
    where
      least : whole (printed first b) p ≡ value b p → ((e : Ix) → IsIn e (map (printed first) bs) → pos 1 ≤ℤ whole e p) → (e : Ix) → IsIn e (map (printed first) (b ∷ bs)) → pos 1 ≤ℤ whole e p
      least w rest e (inl q) = subst (λ e. pos 1 ≤ℤ whole e p) (sym q) (subst (λ n. pos 1 ≤ℤ n) (sym w) (positive 0 b refl))
      least w rest e (inr i) = rest e i

  -- the moduli of an array's fold are within their limits and at least 1
  module _ (extents : List (List Affine)) (folds : List (ArrayId × Fold)) (limits : (array : ℕ) (fold : Fold) → fold_of folds array ≡ Some fold → (j : ℕ) (b : Affine) → slice_get (forms_of fold.moduli) j ≡ Some b → IsModulus (length p) b)
      (positive : (array : ℕ) (fold : Fold) → fold_of folds array ≡ Some fold → ArePositive p (forms_of fold.moduli)) where
    decl_sized : (n : ℕ) (d : Decl) → IsSized p d.extents → (o : Option Fold) → at_work extents folds n ≡ o → IsSized p (decl_by o first d).extents
    decl_sized n d own None e = own
    decl_sized n d own (Some fold) e = let f = works extents folds n fold e in moduli_sized (forms_of fold.moduli) (limits n fold f) (positive n fold f)

    pub decls_sized : (n : ℕ) (ds : List Decl) → ((d : Decl) → IsIn d ds → IsSized p d.extents) → AreSized (decls_from first extents folds n ds) p
    decls_sized n [] own d i = absurd i
    decls_sized n (c ∷ ds) own d (inl e) = subst (λ (d : Decl). IsSized p d.extents) (sym e) (decl_sized n c (own c (inl refl)) (at_work extents folds n) refl)
    decls_sized n (c ∷ ds) own d (inr i) = decls_sized (suc n) ds (λ d j. own d (inr j)) d i

    extents_here : (n : ℕ) (d : Decl) (o : Option Fold) → at_work extents folds n ≡ o → map (λ e. whole e p) (decl_by o first d).extents ≡ extents_by o p (map (λ e. whole e p) d.extents)
    extents_here n d None e = refl
    extents_here n d (Some fold) e = moduli_here (forms_of fold.moduli) (limits n fold (works extents folds n fold e))

    pub decls_extents : (n : ℕ) (ds : List Decl) → ((k : ℕ) → length ds ≤ k → at_work extents folds (n + k) ≡ None)
        → (k : ℕ) → get_or (extents_at (decls_from first extents folds n ds) p) k [] ≡ extents_by (at_work extents folds (n + k)) p (get_or (extents_at ds p) k [])
    decls_extents n [] none k = sym (ap (λ o. extents_by o p []) (none k (omega arith)))
    decls_extents n (d ∷ ds) none zero =
        let z : n ≡ n + 0 = omega arith in
        extents_here n d (at_work extents folds n) refl ∙ ap (λ m. extents_by (at_work extents folds m) p (map (λ e. whole e p) d.extents)) z
    decls_extents n (d ∷ ds) none (suc k) =
        let z : suc n + k ≡ n + suc k = omega arith in
        decls_extents (suc n) ds (λ j l. let y : suc n + j ≡ n + suc j = omega arith in ap (at_work extents folds) y ∙ none (suc j) (omega arith)) k
        ∙ ap (λ m. extents_by (at_work extents folds m) p (get_or (extents_at ds p) k [])) z
