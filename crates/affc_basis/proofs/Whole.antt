-- An array whose moduli are its extents obeys.
use Rattle.std.proofs.Common.{◌≡◌, ℕ, zero, suc, ℤ, pos, ◌-ℤ◌, ◌<ℤ◌, List, [], ◌∷◌, length, get_or, refl, sym, ap, subst, ◌∙◌, arith}
use Rattle.std.specs.Prelude.{unsigned_abs}
use Rattle.affc_rows.specs.Forms.{value}
use Rattle.affc_trace.proofs.Recovers.{dot-unit_row}
use Rattle.affc_basis.specs.Slices.{minus, along}
use Rattle.affc_basis.specs.Laws.{IsWithinExtents, LivePairsLieWithin, WholeArrayObeys}
use Rattle.affc_basis.proofs.Remainders.{between}
use Rattle.affc_basis.proofs.Touched.{both_live}

length-minus : (x y : List ℤ) → length x ≡ length y → length (minus x y) ≡ length x
length-minus [] y e = refl
length-minus (a ∷ x) [] e = absurd (omega arith)
length-minus (a ∷ x) (b ∷ y) e = ap suc (length-minus x y (omega arith))

minus-at : (x y : List ℤ) (k : ℕ) → length x ≡ length y → get_or (minus x y) k (pos 0) ≡ get_or x k (pos 0) -ℤ get_or y k (pos 0)
minus-at [] [] k e = refl
minus-at [] (b ∷ y) k e = absurd (omega arith)
minus-at (a ∷ x) [] k e = absurd (omega arith)
minus-at (a ∷ x) (b ∷ y) zero e = refl
minus-at (a ∷ x) (b ∷ y) (suc k) e = minus-at x y k (omega arith)

pub live_pairs_lie_within : LivePairsLieWithin
live_pairs_lie_within program schedule array p extents inside = both_live program schedule array p (IsWithinExtents p extents) inside

pub whole_array_obeys : (pairs : List ℤ → List ℤ → List ℤ → Type 0) → WholeArrayObeys pairs
whole_array_obeys pairs fold p differ own_rows positive inside k row b at at_b =
    let n : ℕ = length fold.basis.rows in (
      positive k b at_b,
      λ x y s.
          let lengths = differ x y s.pair in
          let same : length x ≡ length y = lengths.1 ∙ sym lengths.2 in
          let long : length (minus x y) ≡ n = length-minus x y same ∙ lengths.1 in
          let both = inside x y s.pair in
          let first = both.0 k b at_b in
          let second = both.1 k b at_b in
          let distance : along row x y ≡ unsigned_abs (get_or x k (pos 0) -ℤ get_or y k (pos 0)) =
          ap (λ r. along r x y) (own_rows k row at) ∙ ap unsigned_abs (dot-unit_row n k (minus x y) long ∙ minus-at x y k same) in
          subst (λ d. pos d <ℤ value b p) (sym distance) (between (get_or x k (pos 0)) (get_or y k (pos 0)) (value b p) first.0 first.1 second.0 second.1),
    )
