-- A basis separates elements, and moduli that exceed each slice's distances keep pairs apart.
use Rattle.std.proofs.Common.{◌≡◌, ◌≢◌, ℕ, zero, suc, ◌+◌, ◌-◌, ◌<◌, ℤ, ◌+ℤ◌, ◌-ℤ◌, List, [], ◌∷◌, ◌++◌, length, get_or, refl, sym, ap, subst, ◌∙◌, ◌⊎◌, inl, inr, arith}
use Rattle.std.specs.Prelude.{slice_get, unsigned_abs, Some}
use Rattle.std.proofs.lemmas.Int.{ints}
use Rattle.std.proofs.lemmas.List.Elements.{All-get_or}
use Rattle.std.proofs.lemmas.Option.{slice_get_within, slice_get-get_or}
use Rattle.affc_rows.specs.Forms.{Affine, dot, value, values_of, columns_of, HaveColumns}
use Rattle.affc_trace.specs.Inverses.{columns_from, GivesColumn, AreInverse}
use Rattle.affc_trace.proofs.Recovers.{recovers}
use Rattle.affc_basis.specs.Bases.{IsSquare, AreComponents}
use Rattle.affc_basis.specs.Slices.{minus, along, InSlice}
use Rattle.affc_basis.specs.Moduli.{InLattice, Separates, Exceeds}
use Rattle.affc_basis.proofs.Remainders.{dot-minus, small_multiple}

-- ---- a basis separates

no_distance : (r : Affine) (x y : List ℤ) → length x ≡ length y → along r x y ≡ 0 → value r x ≡ value r y
no_distance r x y same e = equal_values (dot r.coefs (minus x y)) (dot r.coefs x) (dot r.coefs y) r.constant e (dot-minus r.coefs x y same)
  where
    equal_values : (d a b c : ℤ) → unsigned_abs d ≡ 0 → d ≡ a -ℤ b → a +ℤ c ≡ b +ℤ c
    equal_values d a b c e f = omega (arith, ints)

same_values : (rows : List Affine) (x y : List ℤ) → length x ≡ length y → ((k : ℕ) (row : Affine) → slice_get rows k ≡ Some row → along row x y ≡ 0)
    → values_of rows x ≡ values_of rows y
same_values [] x y same h = refl
same_values (r ∷ rows) x y same h =
    ap (λ u. u ∷ values_of rows x) (no_distance r x y same (h zero r refl))
    ∙ ap (λ l. value r y ∷ l) (same_values rows x y same (λ k row e. h (suc k) row e))

pub square_columns : (n : ℕ) (rows : List Affine) → HaveColumns n rows → length rows ≡ n → columns_of rows ≡ n
square_columns n [] h e = e
square_columns n (r ∷ rows) h e = All-get_or (λ f. length f.coefs ≡ n) (r ∷ rows) 0 r (omega arith) h

given_back : (rows inverse : List Affine) → IsSquare rows inverse → AreComponents rows inverse → (x : List ℤ) → length x ≡ length rows → values_of inverse (values_of rows x) ≡ x
given_back rows inverse square identity x e =
    let n : ℕ = length rows in
    let columns : columns_of rows ≡ n = square_columns n rows square.columns refl in
    let each : length inverse ≡ n = square.one_each in
    let none : columns_of rows - length inverse ≡ 0 = omega arith in
    let width : n ≡ columns_of rows - length inverse + n = omega arith in
    let inverts : AreInverse rows inverse = λ k.
    subst (λ m. GivesColumn inverse (columns_from (columns_of rows) 0 m ++ rows) m k) (sym none) (λ g at.
    (identity k (subst (λ m. k < m) each (slice_get_within inverse k g at))).product g at) in
    let whole : 0 + length x ≡ columns_of rows = omega arith in
    recovers rows inverse (subst (λ m. HaveColumns m rows) (sym columns) square.columns) (subst (λ m. HaveColumns m inverse) width square.inverse_columns) inverts [] x (e ∙ sym each) whole

pub rows_separate : (rows inverse : List Affine) → IsSquare rows inverse → AreComponents rows inverse → (x y : List ℤ) → length x ≡ length rows → length y ≡ length rows
    → ((k : ℕ) (row : Affine) → slice_get rows k ≡ Some row → along row x y ≡ 0) → x ≡ y
rows_separate rows inverse square identity x y e f h =
    sym (given_back rows inverse square identity x e)
    ∙ ap (values_of inverse) (same_values rows x y (e ∙ sym f) h)
    ∙ given_back rows inverse square identity y f

-- ---- moduli that exceed the distances

before_or_at : (j k : ℕ) → j < suc k → (j < k) ⊎ (j ≡ k)
before_or_at zero zero h = inr refl
before_or_at zero (suc k) h = inl (omega arith)
before_or_at (suc j) zero h = absurd (omega arith)
before_or_at (suc j) (suc k) h = elim (before_or_at j k (omega arith)) [ inl l ↦ inl (omega arith) | inr e ↦ inr (ap suc e) ]

module _ (pairs : List ℤ → List ℤ → Type 0) (p : List ℤ) (rows moduli : List Affine) (one_each : length moduli ≡ length rows) (exceeds : Exceeds pairs p rows moduli) where
  -- a modulus that divides a distance and exceeds it leaves none
  no_distance_at : (x y : List ℤ) (k : ℕ) (row : Affine) → slice_get rows k ≡ Some row → InSlice pairs rows k x y → InLattice p rows moduli (minus x y) → along row x y ≡ 0
  no_distance_at x y k row at slice lattice =
      let in_range : k < length moduli = subst (λ m. k < m) (sym one_each) (slice_get_within rows k row at) in
      let b : Affine = get_or moduli k row in
      let at_b : slice_get moduli k ≡ Some b = slice_get-get_or moduli k row in_range in
      let exceeding = exceeds k row b at at_b in
      ap unsigned_abs (small_multiple (value b p) (dot row.coefs (minus x y)) exceeding.0 (lattice k row b at at_b) (exceeding.1 x y slice))

  no_distance_before : (x y : List ℤ) → pairs x y → InLattice p rows moduli (minus x y) → (k j : ℕ) (row : Affine) → j < k → slice_get rows j ≡ Some row → along row x y ≡ 0
  no_distance_before x y pair lattice zero j row h at = absurd (omega arith)
  no_distance_before x y pair lattice (suc k) j row h at = elim (before_or_at j k h) [
    | inl l ↦ no_distance_before x y pair lattice k j row l at
    | inr e ↦ no_distance_at x y k row (ap (slice_get rows) (sym e) ∙ at)
        (record { pair = pair; agrees = λ i r l g. no_distance_before x y pair lattice k i r l g }) lattice
  ]

  pub separated : (inverse : List Affine) → IsSquare rows inverse → AreComponents rows inverse
      → ((x y : List ℤ) → pairs x y → (x ≢ y) × (length x ≡ length rows) × (length y ≡ length rows)) → Separates pairs p rows moduli
  separated inverse square identity proper = record {
    positive = λ k b at.
        let in_range : k < length rows = subst (λ m. k < m) one_each (slice_get_within moduli k b at) in
        (exceeds k (get_or rows k b) b (slice_get-get_or rows k b in_range) at).0;
    apart = λ x y pair lattice.
        let q = proper x y pair in
        q.0 (rows_separate rows inverse square identity x y q.1 q.2 (λ k row at. no_distance_before x y pair lattice (suc k) k row (omega arith) at));
  }
