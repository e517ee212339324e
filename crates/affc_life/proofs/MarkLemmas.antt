-- Moduli that obey, and true marks, where pairs and context are said in other words.
use Rattle.std.proofs.Common.{ℕ, ℤ, List, Option, Some, None, inl, inr}
use Rattle.std.specs.Prelude.{◌↔◌}
use Rattle.affc_rows.specs.Forms.{Affine}
use Rattle.affc_basis.specs.declared.fold.Mark.{Mark}
use Rattle.affc_basis.specs.declared.fold.Mark.TheVariants.{Least, Bound}
use Rattle.affc_basis.specs.Folds.{IsLeastMark, IsTrueOf, AttainsBy}
use Rattle.affc_basis.specs.Moduli.{Exceeds}
use Rattle.affc_basis.specs.Slices.{InSlice, IsGreatest}

-- ---- At one p

module _ (pairs others : List ℤ → List ℤ → Type 0) (same : (x y : List ℤ) → pairs x y ↔ others x y) where
  slice_to : (rows : List Affine) (k : ℕ) (x y : List ℤ) → InSlice pairs rows k x y → InSlice others rows k x y
  slice_to rows k x y h = record { pair = (same x y).0 h.pair; agrees = h.agrees }

  slice_from : (rows : List Affine) (k : ℕ) (x y : List ℤ) → InSlice others rows k x y → InSlice pairs rows k x y
  slice_from rows k x y h = record { pair = (same x y).1 h.pair; agrees = h.agrees }

  pub exceeds_others : (p : List ℤ) (rows moduli : List Affine) → Exceeds pairs p rows moduli → Exceeds others p rows moduli
  exceeds_others p rows moduli h k row b at at_b = let e = h k row b at at_b in (e.0, λ x y s. e.1 x y (slice_from rows k x y s))

  greatest_of_others : (rows : List Affine) (k : ℕ) (row : Affine) (n : ℕ) → IsGreatest pairs rows k row n → IsGreatest others rows k row n
  greatest_of_others rows k row n h = record {
    most = λ x y s. h.most x y (slice_from rows k x y s);
    attained = elim h.attained [ inl e ↦ inl e | inr f ↦ inr (f.0, f.1, slice_to rows k f.0 f.1 f.2, f.3) ];
  }

  attains_others : (rows : List Affine) (k : ℕ) (row : Affine) (pair : Option (List ℤ × List ℤ)) (n : ℕ) → AttainsBy pairs rows k row pair n → AttainsBy others rows k row pair n
  attains_others rows k row None n h = h
  attains_others rows k row (Some pair) n h = (slice_to rows k pair.0 pair.1 h.0, h.1, h.2)

-- ---- Throughout a context

module _ (In Inside : List ℤ → Type 0) (pairs others : List ℤ → List ℤ → List ℤ → Type 0) (to : (p : List ℤ) → In p → Inside p) (from : (p : List ℤ) → Inside p → In p)
    (same : (p : List ℤ) → Inside p → (x y : List ℤ) → pairs p x y ↔ others p x y) where
  pub mark_of_others : (rows : List Affine) (k : ℕ) (row modulus : Affine) (mark : Mark) → IsTrueOf In pairs rows k row modulus mark → IsTrueOf Inside others rows k row modulus mark
  mark_of_others rows k row modulus (Least p pair) h =
      let inside = to p h.in_context in
      let made : IsLeastMark Inside others rows k row modulus p pair =
      record {
        in_context = inside;
        highest = λ q i. h.highest q (from q i);
        greatest = h.greatest;
        is_greatest = greatest_of_others (pairs p) (others p) (same p inside) rows k row h.greatest h.is_greatest;
        value_there = h.value_there;
        attains = attains_others (pairs p) (others p) (same p inside) rows k row pair h.greatest h.attains;
      } in
      made
  mark_of_others rows k row modulus Bound h = tt
