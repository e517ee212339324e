-- The whole fold, from its rows.
use Rattle.std.proofs.Common.{◌≡◌, ◌≢◌, inl, inr, ℕ, zero, suc, ◌+◌, ◌<◌, List, [], ◌∷◌, ◌++◌, length, drop, add-one, arith, ℤ, pos, ◌≤ℤ◌, ◌<ℤ◌, refl, sym, ap, ap₂, subst, ◌∙◌}
use Rattle.std.specs.Prelude.{slice_get, get_or, Some}
use Rattle.std.specs.List.{All}
use Rattle.std.proofs.lemmas.Option.{slice_get-get_or}
use Rattle.std.proofs.lemmas.List.{append_assoc}
use Rattle.std.proofs.lemmas.List.Elements.{All-map}
use Rattle.affc_rows.specs.Forms.{Affine, value, values_of}
use Rattle.affc_system.specs.Systems.{Rows}
use Rattle.affc_system.specs.declared.pairs.PairSystem.{PairSystem}
use Rattle.affc_basis.specs.declared.basis.Basis.{Basis}
use Rattle.affc_basis.specs.declared.fold.Modulus.{Modulus}
use Rattle.affc_basis.specs.Slices.{along, InSlice}
use Rattle.affc_basis.specs.Moduli.{Exceeds, Separates, IsModulus}
use Rattle.affc_basis.specs.Folds.{forms_of}
use Rattle.affc_basis.proofs.Separation.{separated}
use Rattle.affc_system.specs.ElementPairs.{IsPairAt, IsPairOf}
use Rattle.affc_domain.proofs.ColumnLemmas.{values_long}
use Rattle.affc_conflicts.specs.Conditions.{InContext, IsConflict}
use Rattle.affc_conflicts.proofs.Decided.{all_at, modulus_at}
use Rattle.affc_moduli.specs.Rows.{AreKept}
use Rattle.affc_moduli.proofs.Covers.{some_at, place_of}

-- the values of the forms from a place on: that of the one there, and those behind it
values_at : (fs : List Affine) (z : List ℤ) (i : ℕ) (d : Affine) → i < length fs → values_of (drop i fs) z ≡ value (get_or fs i d) z ∷ values_of (drop (suc i) fs) z
values_at [] z i d h = absurd (omega arith)
values_at (f ∷ fs) z zero d h = refl
values_at (f ∷ fs) z (suc i) d h = values_at fs z i d (omega arith)

pub one_value_more : (fs : List Affine) (z : List ℤ) (i : ℕ) (f : Affine) (xs new : List ℤ) (v : ℤ) → i < length fs → f ≡ get_or fs i f → new ≡ xs ++ v ∷ [] → v ≡ value f z
    → xs ++ values_of (drop i fs) z ≡ values_of fs z → new ++ values_of (drop (i + 1) fs) z ≡ values_of fs z
one_value_more fs z i f xs new v h at e w before =
    let there : v ∷ values_of (drop (i + 1) fs) z ≡ values_of (drop i fs) z =
    ap₂ (λ u q. u ∷ values_of (drop q fs) z) (w ∙ ap (λ g. value g z) at) (add-one i) ∙ sym (values_at fs z i f h) in
    ap (λ ys. ys ++ values_of (drop (i + 1) fs) z) e ∙ append_assoc xs (v ∷ []) (values_of (drop (i + 1) fs) z) ∙ ap (λ ys. xs ++ ys) there ∙ before

module _ (context : Rows) (ranges : List (ℤ × ℤ)) (rows extents : List Affine) (systems : List PairSystem) (ms : List Modulus) (done : AreKept context ranges systems rows ms) (one_each : length ms ≡ length rows) where
  pub limits : All (IsModulus context.columns) (forms_of ms)
  limits = All-map (IsModulus context.columns) (λ (m : Modulus). m.form) ms (λ k d h.
      let row = some_at rows k (subst (λ n. k < n) one_each h) in
      (done k row.0 (get_or ms k d) row.1 (slice_get-get_or ms k d h)).limits)

  pub obeys : (p : List ℤ) → InContext context ranges p → Exceeds (IsPairOf systems p) p rows (forms_of ms)
  obeys p here k row b at at_b =
      let m = modulus_at ms k b at_b in
      let enough = (done k row m.0 at m.1).enough p here in
      subst (λ (f : Affine). (pos 1 ≤ℤ value f p) × ((x y : List ℤ) → InSlice (IsPairOf systems p) rows k x y → pos (along row x y) <ℤ value f p)) m.2 enough

  pub moduli_each : length (forms_of ms) ≡ length rows
  moduli_each = length_forms ms ∙ one_each
    where
      length_forms : (ms : List Modulus) → length (forms_of ms) ≡ length ms
      length_forms [] = refl
      length_forms (m ∷ ms) = ap suc (length_forms ms)

  proper_at : (s : PairSystem) (p x y : List ℤ) → IsConflict context ranges extents s → length extents ≡ length rows → IsPairAt s p x y → (x ≢ y) × (length x ≡ length rows) × (length y ≡ length rows)
  proper_at s p x y conflict same pair = (
    λ e. conflict.differ pair.point pair.meets (pair.first ∙ e ∙ sym pair.second),
    ap length (sym pair.first) ∙ values_long s.x.items pair.point ∙ conflict.x_each ∙ same,
    ap length (sym pair.second) ∙ values_long s.y.items pair.point ∙ conflict.y_each ∙ same,
  )

  pub proper : (p x y : List ℤ) → ((i : ℕ) (s : PairSystem) → slice_get systems i ≡ Some s → IsConflict context ranges extents s) → length extents ≡ length rows → IsPairOf systems p x y
      → (x ≢ y) × (length x ≡ length rows) × (length y ≡ length rows)
  proper p x y conflicts same pair = elim pair.either [
    | inl e ↦ proper_at pair.system p x y (conflicts (place_of systems pair.system pair.there).0 pair.system (place_of systems pair.system pair.there).1) same e
    | inr e ↦
        let q = proper_at pair.system p y x (conflicts (place_of systems pair.system pair.there).0 pair.system (place_of systems pair.system pair.there).1) same e in
        ((λ f. q.0 (sym f)), q.2, q.1)
  ]

pub admissible : (context : Rows) (ranges : List (ℤ × ℤ)) (extents : List Affine) (basis : Basis) (systems : List PairSystem) (ms : List Modulus) → AreKept context ranges systems basis.rows ms → length ms ≡ length basis.rows
    → All (IsConflict context ranges extents) systems → length extents ≡ length basis.rows → (p : List ℤ) → InContext context ranges p → Separates (IsPairOf systems p) p basis.rows (forms_of ms)
admissible context ranges extents basis systems ms done one_each conflicts same p here =
    separated (IsPairOf systems p) p basis.rows (forms_of ms) (moduli_each context ranges basis.rows extents systems ms done one_each)
    (obeys context ranges basis.rows extents systems ms done one_each p here) basis.inverse basis.square basis.identity
    (λ x y pair. proper context ranges basis.rows extents systems ms done one_each p x y (all_at (IsConflict context ranges extents) systems conflicts) same pair)
