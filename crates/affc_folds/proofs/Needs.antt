-- What rows need over the points of a box that pass a test, as numbers with marks that show them to be least.
use Rattle.std.proofs.Common.{◌≡◌, ℕ, zero, suc, ◌+◌, ◌^◌, ◌≤◌, ℤ, pos, ◌≤ℤ◌, ◌<ℤ◌, Bool, true, List, [], ◌∷◌, length, Option, Some, None, refl, sym, ap, ap₂, subst, ◌∙◌, inl, inr, arith}
use Rattle.std.specs.Prelude.{slice_get}
use Rattle.std.proofs.lemmas.Int.{ints}
use Rattle.std.proofs.lemmas.Option.{none-some, same_Some}
use Rattle.affc_rows.specs.Forms.{Affine, value}
use Rattle.affc_rows.specs.Vocabulary.{number_form}
use Rattle.affc_rows.proofs.SizeLemmas.{number_within}
use Rattle.affc_system.specs.Boxes.{InBox}
use Rattle.affc_system.proofs.Greatest.{HighestWhere, greatest_where}
use Rattle.affc_basis.specs.declared.fold.Mark.TheVariants.{Least}
use Rattle.affc_basis.specs.declared.fold.Modulus.{Modulus}
use Rattle.affc_basis.specs.Folds.{AttainsBy, IsEnough, IsTrueMark}
use Rattle.affc_basis.specs.Moduli.{IsModulus}
use Rattle.affc_basis.specs.Slices.{along, IsGreatest}
use Rattle.affc_domain.proofs.FormLemmas.{number_value}

-- ---- The moduli of rows

module _ (InContext : List ℤ → Type 0) (ranges : List (ℤ × ℤ)) (test : List ℤ → Bool) (within : (p : List ℤ) → InContext p → InBox ranges p) (passes : (p : List ℤ) → InContext p → test p ≡ true)
    (from : (p : List ℤ) → test p ≡ true → InContext p) (some : (p : List ℤ) × InContext p) (pairs : List ℤ → List ℤ → List ℤ → Type 0) (rows : List Affine)
    (greatest : (p : List ℤ) (k : ℕ) (row : Affine) → (n : ℕ) × IsGreatest (pairs p) rows k row n) where
  module _ (parameters k : ℕ) (row : Affine) where
    -- where the greatest distance along the row is greatest
    pub highest : HighestWhere ranges test (λ p. (greatest p k row).0)
    highest = greatest_where ranges test some.0 (within some.0 some.1) (passes some.0 some.1) (λ p. (greatest p k row).0)

    abbrev pub at : List ℤ
    at = highest.at

    abbrev pub most : ℕ
    most = (greatest at k row).0

    there : InContext at
    there = from at highest.passes

    no_more : (p : List ℤ) → InContext p → (greatest p k row).0 ≤ most
    no_more p here = highest.most p (within p here) (passes p here)

    -- 1 more
    abbrev pub form : Affine
    form = number_form parameters (pos (most + 1))

    its_value : (p : List ℤ) → value form p ≡ pos (most + 1)
    its_value p = number_value parameters (pos (most + 1)) p

    -- two elements that have it, unless it is 0
    shown_by : (n : ℕ) → IsGreatest (pairs at) rows k row n → (pair : Option (List ℤ × List ℤ)) × AttainsBy (pairs at) rows k row pair n
    shown_by zero g = (None, refl)
    shown_by (suc n) g = elim g.attained [
      | inl e ↦ absurd (omega (arith, e))
      | inr f ↦ (Some (f.0, f.1), (f.2, f.3, omega arith))
    ]

    pub shown : (pair : Option (List ℤ × List ℤ)) × AttainsBy (pairs at) rows k row pair most
    shown = shown_by most (greatest at k row).1

    abbrev pub needed : Modulus
    needed = record { form = form; mark = Least at shown.0 }

    is_marked : IsTrueMark InContext pairs rows k row needed
    is_marked = record {
      in_context = there;
      highest = λ q here. same (value form q) (value form at) (most + 1) (its_value q) (its_value at);
      greatest = most;
      is_greatest = (greatest at k row).1;
      value_there = its_value at;
      attains = shown.1;
    }
      where
        same : (u v : ℤ) (n : ℕ) → u ≡ pos n → v ≡ pos n → u ≤ℤ v
        same u v n e f = omega (arith, ints)

    is_enough : IsEnough InContext pairs rows k row form
    is_enough p here = (
      low (value form p) most (its_value p),
      λ x y s. above (value form p) (along row x y) (greatest p k row).0 most (its_value p) ((greatest p k row).1.most x y s) (no_more p here),
    )
      where
        low : (v : ℤ) (n : ℕ) → v ≡ pos (n + 1) → pos 1 ≤ℤ v
        low v n e = omega (arith, ints)

        above : (v : ℤ) (d g n : ℕ) → v ≡ pos (n + 1) → d ≤ g → g ≤ n → pos d <ℤ v
        above v d g n e h i = omega (arith, ints)

    -- where no two elements lie farther apart than this
    it_fits : (bound : ℕ) → bound ≤ 2 ^ 54 → ((p : List ℤ) → InContext p → (x y : List ℤ) → pairs p x y → along row x y ≤ bound) → IsModulus parameters form
    it_fits bound small near = number_within parameters (2 ^ 30) (2 ^ 55) (pos (most + 1)) (by_case most (greatest at k row).1)
      where
        by_case : (n : ℕ) → IsGreatest (pairs at) rows k row n → n + 1 ≤ 2 ^ 55
        by_case n g = elim g.attained [
          | inl e ↦ omega (arith, e)
          | inr f ↦ (let h = near at there f.0 f.1 f.2.pair in omega (arith, f.3, h, small))
        ]

  -- one for each row from the k-th on
  abbrev pub moduli_from : (parameters k : ℕ) → List Affine → List Modulus
  moduli_from parameters k [] = []
  moduli_from parameters k (row ∷ rs) = needed parameters k row ∷ moduli_from parameters (suc k) rs

  pub as_many : (parameters k : ℕ) (rs : List Affine) → length (moduli_from parameters k rs) ≡ length rs
  as_many parameters k [] = refl
  as_many parameters k (row ∷ rs) = ap suc (as_many parameters (suc k) rs)

  its_row : (parameters k j : ℕ) (rs : List Affine) (row : Affine) (m : Modulus) → slice_get rs j ≡ Some row → slice_get (moduli_from parameters k rs) j ≡ Some m → needed parameters (k + j) row ≡ m
  its_row parameters k j [] row m at at_m = absurd (none-some row at)
  its_row parameters k zero (r ∷ rs) row m at at_m = ap₂ (needed parameters) (omega arith) (sym (same_Some r row at)) ∙ same_Some (needed parameters k r) m at_m
  its_row parameters k (suc j) (r ∷ rs) row m at at_m = ap (λ i. needed parameters i row) (omega arith) ∙ its_row parameters (suc k) j rs row m at at_m

  module _ (parameters k : ℕ) (row : Affine) (m : Modulus) (at : slice_get rows k ≡ Some row) (at_m : slice_get (moduli_from parameters 0 rows) k ≡ Some m) where
    same : needed parameters k row ≡ m
    same = let e : k ≡ 0 + k = omega arith in ap (λ i. needed parameters i row) e ∙ its_row parameters 0 k rows row m at at_m

    pub row_marked : IsTrueMark InContext pairs rows k row m
    row_marked = subst (IsTrueMark InContext pairs rows k row) same (is_marked parameters k row)

    pub row_enough : IsEnough InContext pairs rows k row m.form
    row_enough = subst (λ (m : Modulus). IsEnough InContext pairs rows k row m.form) same (is_enough parameters k row)

    pub row_fits : (bound : ℕ) → bound ≤ 2 ^ 54 → ((p : List ℤ) → InContext p → (x y : List ℤ) → pairs p x y → along row x y ≤ bound) → IsModulus parameters m.form
    row_fits bound small near = subst (λ (m : Modulus). IsModulus parameters m.form) same (it_fits parameters k row bound small near)

    pub row_shown : (p : List ℤ) × (pair : Option (List ℤ × List ℤ)) × (m.mark ≡ Least p pair)
    row_shown = ((highest parameters k row).at, (shown parameters k row).0, ap (λ (m : Modulus). m.mark) (sym same))
