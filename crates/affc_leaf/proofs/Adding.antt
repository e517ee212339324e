-- Multiples of rows added onto a sum in place.
use Rattle.std.proofs.Common.{◌≡◌, ℕ, zero, suc, ◌+◌, ◌<◌, List, [], ◌∷◌, ◌++◌, length, take, drop, slice_index_or, slice_set, ℤ, pos, ◌+ℤ◌, ◌*ℤ◌, refl, ap, ◌∙◌, arith, add-one}
use Rattle.affc_rows.specs.Forms.{Affine, mixed, mixed_form}
use Rattle.affc_farkas.specs.Multiples.{row_at, multiple_sum}

add_step' : (t : ℤ) (row sum : List ℤ) (i : ℕ) (v : ℤ) → i < length row → i < length sum
    → v ≡ (t *ℤ slice_index_or row i (pos 0)) +ℤ (pos 1 *ℤ slice_index_or sum i (pos 0))
    → take (suc i) (slice_set sum i v) ++ mixed t (drop (suc i) row) (pos 1) (drop (suc i) (slice_set sum i v)) ≡ take i sum ++ mixed t (drop i row) (pos 1) (drop i sum)
add_step' t [] sum i v h k e = absurd (omega arith)
add_step' t (r ∷ rs) [] i v h k e = absurd (omega arith)
add_step' t (r ∷ rs) (s ∷ ss) zero v h k e = ap (λ z. z ∷ mixed t rs (pos 1) ss) e
add_step' t (r ∷ rs) (s ∷ ss) (suc i) v h k e = ap (λ l. s ∷ l) (add_step' t rs ss i v (omega arith) (omega arith) e)

-- one entry more is changed
pub add_step : (t : ℤ) (row sum : List ℤ) (i : ℕ) (v : ℤ) → i < length row → i < length sum
    → v ≡ (t *ℤ slice_index_or row i (pos 0)) +ℤ (pos 1 *ℤ slice_index_or sum i (pos 0))
    → take (i + 1) (slice_set sum i v) ++ mixed t (drop (i + 1) row) (pos 1) (drop (i + 1) (slice_set sum i v)) ≡ take i sum ++ mixed t (drop i row) (pos 1) (drop i sum)
add_step t row sum i v h k e = simp add-one (add_step' t row sum i v h k e)

pub form_is : (f g : Affine) → f.coefs ≡ g.coefs → f.constant ≡ g.constant → f ≡ g
form_is f g e k = ap (λ c. record f { coefs = c }) e ∙ ap (λ z. record g { constant = z }) k

-- one multiple more, before those that were added
pub sum_step : (columns : ℕ) (rows : List Affine) (by : List (ℕ × ℕ)) (row times : ℕ) (form rest : Affine) (coefs : List ℤ) (constant : ℤ)
    → form ≡ row_at columns rows row → rest ≡ multiple_sum columns rows by → coefs ≡ mixed (pos times) form.coefs (pos 1) rest.coefs → constant ≡ (pos times *ℤ form.constant) +ℤ (pos 1 *ℤ rest.constant)
    → record { coefs = coefs; constant = constant } ≡ multiple_sum columns rows ((row, times) ∷ by)
sum_step columns rows by row times form rest coefs constant e f g h =
    form_is (record { coefs = coefs; constant = constant }) (mixed_form (pos times) form (pos 1) rest) g h
    ∙ ap (λ q. mixed_form (pos times) q (pos 1) rest) e ∙ ap (λ q. mixed_form (pos times) (row_at columns rows row) (pos 1) q) f

pub other_default : (l : List Affine) (i : ℕ) (d e : Affine) → i < length l → slice_index_or l i d ≡ slice_index_or l i e
other_default [] i d e h = absurd (omega arith)
other_default (x ∷ xs) zero d e h = refl
other_default (x ∷ xs) (suc i) d e h = other_default xs i d e (omega arith)
