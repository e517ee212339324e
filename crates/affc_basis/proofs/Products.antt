-- A form with the rows put in, entry by entry.
use Rattle.std.proofs.Common.{◌≡◌, ◌≢◌, ℕ, zero, suc, ◌+◌, ◌<◌, ℤ, pos, ◌+ℤ◌, false, List, [], ◌∷◌, length, get_or, Option, Some, None, refl, sym, ap, subst, ◌∙◌, inl, inr, arith, nat_eq}
use Rattle.std.proofs.lemmas.Int.{ints}
use Rattle.std.proofs.lemmas.Bool.Decides.{eqb_tells}
use Rattle.std.proofs.lemmas.List.{ext_get_or}
use Rattle.affc_rows.specs.Forms.{Affine, dot, column_of, constants_of, composed, composed_form, columns_of}
use Rattle.affc_rows.proofs.ValueLemmas.{length-composed}
use Rattle.affc_trace.specs.Inverses.{zeros, unit_row, column}
use Rattle.affc_trace.proofs.Recovers.{length-unit_row}
use Rattle.affc_basis.specs.Bases.{entry_of, entries_of, identity_entry}

pub length-entries_of : (column : Option ℕ) (forms : List Affine) → length (entries_of column forms) ≡ length forms
length-entries_of column [] = refl
length-entries_of column (f ∷ fs) = ap suc (length-entries_of column fs)

pub entries_of-at : (column : Option ℕ) (i : ℕ) (forms : List Affine) (g : Affine) → i < length forms → g ≡ get_or forms i g
    → entry_of column g ≡ get_or (entries_of column forms) i (pos 0)
entries_of-at column zero (f ∷ fs) g l e = ap (entry_of column) e
entries_of-at column (suc i) (f ∷ fs) g l e = entries_of-at column i fs g (omega arith) e
entries_of-at column i [] g l e = absurd (omega arith)

pub entries_of-column : (j : ℕ) (forms : List Affine) → entries_of (Some j) forms ≡ column_of j forms
entries_of-column j [] = refl
entries_of-column j (f ∷ fs) = ap (λ l. get_or f.coefs j (pos 0) ∷ l) (entries_of-column j fs)

pub entries_of-constants : (forms : List Affine) → entries_of None forms ≡ constants_of forms
entries_of-constants [] = refl
entries_of-constants (f ∷ fs) = ap (λ l. f.constant ∷ l) (entries_of-constants fs)

-- ---- the entries of the product

zeros-at : (n i : ℕ) → get_or (zeros n) i (pos 0) ≡ pos 0
zeros-at zero i = refl
zeros-at (suc n) zero = refl
zeros-at (suc n) (suc i) = zeros-at n i

unit_row-same : (n k : ℕ) → k < n → get_or (unit_row n k) k (pos 0) ≡ pos 1
unit_row-same zero k h = absurd (omega arith)
unit_row-same (suc n) zero h = refl
unit_row-same (suc n) (suc k) h = unit_row-same n k (omega arith)

unit_row-other : (n k i : ℕ) → i ≢ k → get_or (unit_row n k) i (pos 0) ≡ pos 0
unit_row-other zero k i h = refl
unit_row-other (suc n) zero zero h = absurd (h refl)
unit_row-other (suc n) zero (suc i) h = zeros-at n i
unit_row-other (suc n) (suc k) zero h = refl
unit_row-other (suc n) (suc k) (suc i) h = unit_row-other n k i (λ e. h (ap suc e))

unit_row-at : (n k i : ℕ) → i < n → get_or (unit_row n k) i (pos 0) ≡ identity_entry (nat_eq i k)
unit_row-at n k i h = elim (eqb_tells i k) [
  | inl e ↦ ap (λ m. get_or (unit_row n k) m (pos 0)) e.1 ∙ unit_row-same n k (subst (λ m. m < n) e.1 h) ∙ ap identity_entry (sym e.0)
  | inr e ↦ unit_row-other n k i e.1 ∙ ap identity_entry (sym e.0)
]

composed-at : (cs : List ℤ) (rows : List Affine) (j n i : ℕ) → i < n → get_or (composed cs rows j n) i (pos 0) ≡ dot cs (column_of (j + i) rows)
composed-at cs rows j zero i h = absurd (omega arith)
composed-at cs rows j (suc n) zero h = let e : j ≡ j + 0 = omega arith in ap (λ m. dot cs (column_of m rows)) e
composed-at cs rows j (suc n) (suc i) h =
    let e : suc j + i ≡ j + suc i = omega arith in
    composed-at cs rows (suc j) n i (omega arith) ∙ ap (λ m. dot cs (column_of m rows)) e

module _ (g : Affine) (rows : List Affine) (k : ℕ) (whole : columns_of rows ≡ length rows) (no_constant : g.constant ≡ pos 0) where
  abbrev pub HasNoConstant : Type 0
  HasNoConstant = dot g.coefs (entries_of None rows) ≡ identity_entry false

  abbrev pub HasEntry : ℕ → Type 0
  HasEntry j = dot g.coefs (entries_of (Some j) rows) ≡ identity_entry (nat_eq j k)

  at_column : (j : ℕ) → j < length rows → get_or (composed g.coefs rows 0 (columns_of rows)) j (pos 0) ≡ dot g.coefs (entries_of (Some j) rows)
  at_column j h =
      let e : 0 + j ≡ j = omega arith in
      composed-at g.coefs rows 0 (columns_of rows) j (omega (arith, whole)) ∙ ap (λ m. dot g.coefs (column_of m rows)) e ∙ ap (dot g.coefs) (sym (entries_of-column j rows))

  pub constant_of_column : composed_form g rows ≡ column (columns_of rows) k → HasNoConstant
  constant_of_column e = ap (dot g.coefs) (entries_of-constants rows) ∙ without (dot g.coefs (constants_of rows)) g.constant (ap (λ f. f.constant) e) no_constant
    where
      without : (a b : ℤ) → a +ℤ b ≡ pos 0 → b ≡ pos 0 → a ≡ pos 0
      without a b e f = omega (arith, ints)

  pub entry_of_column : composed_form g rows ≡ column (columns_of rows) k → (j : ℕ) → j < length rows → HasEntry j
  entry_of_column e j h = sym (at_column j h) ∙ ap (λ f. get_or f.coefs j (pos 0)) e ∙ unit_row-at (columns_of rows) k j (omega (arith, whole))

  pub column_of_entries : HasNoConstant → ((j : ℕ) → j < length rows → HasEntry j) → composed_form g rows ≡ column (columns_of rows) k
  column_of_entries none each =
      let coefs : composed g.coefs rows 0 (columns_of rows) ≡ unit_row (columns_of rows) k =
      ext_get_or (pos 0) _ _ (length-composed g.coefs rows 0 (columns_of rows) ∙ sym (length-unit_row (columns_of rows) k)) (λ j h.
      let in_range : j < length rows = omega (arith, h, whole, length-composed g.coefs rows 0 (columns_of rows)) in
      at_column j in_range ∙ each j in_range ∙ sym (unit_row-at (columns_of rows) k j (omega (arith, whole)))) in
      let constant : dot g.coefs (constants_of rows) +ℤ g.constant ≡ pos 0 =
      both (dot g.coefs (constants_of rows)) g.constant (ap (dot g.coefs) (sym (entries_of-constants rows)) ∙ none) no_constant in
      λ i. record { coefs = coefs i; constant = constant i }
    where
      both : (a b : ℤ) → a ≡ pos 0 → b ≡ pos 0 → a +ℤ b ≡ pos 0
      both a b e f = omega (arith, ints)
