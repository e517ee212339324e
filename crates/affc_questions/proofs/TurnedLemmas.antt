-- The distance between two elements the other way round.
use Rattle.std.proofs.Common.{◌≡◌, ℕ, zero, suc, ◌^◌, ◌<◌, ◌≤◌, ℤ, pos, negsuc, ◌+ℤ◌, ◌-ℤ◌, ◌*ℤ◌, List, [], ◌∷◌, get_or, refl, sym, ap, ap₂, ◌∙◌, inl, inr, arith}
use Rattle.std.specs.Prelude.{unsigned_abs}
use Rattle.std.specs.List.{All}
use Rattle.std.proofs.lemmas.Int.{ints}
use Rattle.std.proofs.lemmas.List.Elements.{All-head, All-tail}
use Rattle.affc_rows.specs.Forms.{Affine, dot, column_of, constants_of, composed, mixed, mixed_form, entry_magnitude, mixed_magnitudes, mixed_form_magnitudes, TooWide}
use Rattle.affc_rows.proofs.IntLemmas.{mul-add}
use Rattle.affc_nest.specs.Domains.{gap_row}
use Rattle.affc_conflicts.specs.Questions.{differences, distance}
use Rattle.affc_questions.specs.Asked.{AreElements}
use Rattle.affc_nest.specs.Wide.{IsWide}
use Rattle.affc_questions.proofs.DistanceLemmas.{distance_is}

-- numbers that sum to 0 in turn
abbrev AreOpposite : List ℤ → List ℤ → Type 0
AreOpposite [] [] = Unit {0}
AreOpposite [] (e ∷ es) = ⊥
AreOpposite (d ∷ ds) [] = ⊥
AreOpposite (d ∷ ds) (e ∷ es) = (d +ℤ e ≡ pos 0) × AreOpposite ds es

no_product : (c z : ℤ) → z ≡ pos 0 → c *ℤ z ≡ pos 0
no_product c z e = ap (λ x. c *ℤ x) e ∙ by c
  where
    by : (c : ℤ) → c *ℤ pos 0 ≡ pos 0
    by c = omega (arith, ints)

-- so do their products with the same numbers
dots_opposite : (cs ds es : List ℤ) → AreOpposite ds es → dot cs ds +ℤ dot cs es ≡ pos 0
dots_opposite [] ds es h = omega (arith, ints)
dots_opposite (c ∷ cs) [] [] h = omega (arith, ints)
dots_opposite (c ∷ cs) [] (e ∷ es) h = absurd h
dots_opposite (c ∷ cs) (d ∷ ds) [] h = absurd h
dots_opposite (c ∷ cs) (d ∷ ds) (e ∷ es) h = sum (c *ℤ d) (c *ℤ e) (dot cs ds) (dot cs es) (sym (mul-add c d e) ∙ no_product c (d +ℤ e) h.0) (dots_opposite cs ds es h.1)
  where
    sum : (a b x y : ℤ) → a +ℤ b ≡ pos 0 → x +ℤ y ≡ pos 0 → (a +ℤ x) +ℤ (b +ℤ y) ≡ pos 0
    sum a b x y e f = omega (arith, ints, e, f)

-- ---- Differences

entry_opposite : (cs ds : List ℤ) (j : ℕ) → get_or (mixed (pos 1) cs (negsuc 0) ds) j (pos 0) +ℤ get_or (mixed (pos 1) ds (negsuc 0) cs) j (pos 0) ≡ pos 0
entry_opposite [] [] j = omega (arith, ints)
entry_opposite [] (d ∷ ds) j = omega (arith, ints)
entry_opposite (c ∷ cs) [] j = omega (arith, ints)
entry_opposite (c ∷ cs) (d ∷ ds) zero = omega (arith, ints)
entry_opposite (c ∷ cs) (d ∷ ds) (suc j) = entry_opposite cs ds j

columns_opposite : (j : ℕ) (xs ys : List Affine) → AreOpposite (column_of j (differences xs ys)) (column_of j (differences ys xs))
columns_opposite j [] [] = tt
columns_opposite j [] (y ∷ ys) = tt
columns_opposite j (x ∷ xs) [] = tt
columns_opposite j (x ∷ xs) (y ∷ ys) = (entry_opposite x.coefs y.coefs j, columns_opposite j xs ys)

constants_opposite : (xs ys : List Affine) → AreOpposite (constants_of (differences xs ys)) (constants_of (differences ys xs))
constants_opposite [] [] = tt
constants_opposite [] (y ∷ ys) = tt
constants_opposite (x ∷ xs) [] = tt
constants_opposite (x ∷ xs) (y ∷ ys) = (one x.constant y.constant, constants_opposite xs ys)
  where
    one : (a b : ℤ) → ((pos 1 *ℤ a) +ℤ (negsuc 0 *ℤ b)) +ℤ ((pos 1 *ℤ b) +ℤ (negsuc 0 *ℤ a)) ≡ pos 0
    one a b = omega (arith, ints)

-- ---- The row

entry_turned : (a b m : ℤ) → a +ℤ b ≡ pos 0 → (negsuc 0 *ℤ a) +ℤ (negsuc 0 *ℤ m) ≡ (pos 1 *ℤ b) +ℤ (negsuc 0 *ℤ m)
entry_turned a b m e = omega (arith, ints, e)

coefs_turned : (cs : List ℤ) (xs ys : List Affine) (j n : ℕ) (ms : List ℤ) → mixed (negsuc 0) (composed cs (differences xs ys) j n) (negsuc 0) ms ≡ mixed (pos 1) (composed cs (differences ys xs) j n) (negsuc 0) ms
coefs_turned cs xs ys j zero ms = refl
coefs_turned cs xs ys j (suc n) [] = refl
coefs_turned cs xs ys j (suc n) (m ∷ ms) =
    ap₂ (λ z zs. z ∷ zs) (entry_turned (dot cs (column_of j (differences xs ys))) (dot cs (column_of j (differences ys xs))) m (dots_opposite cs (column_of j (differences xs ys)) (column_of j (differences ys xs)) (columns_opposite j xs ys)))
    (coefs_turned cs xs ys (suc j) n ms)

-- a modulus less than y lies behind x, by how far x lies behind y
pub row_turned : (n : ℕ) (row : Affine) (xs ys : List Affine) → AreElements n row xs ys → AreElements n row ys xs → (most : Affine) → mixed_form (negsuc 0) (distance row xs ys) (negsuc 0) most ≡ gap_row most (distance row ys xs) 0
row_turned n row xs ys s t most =
    ap (λ (f : Affine). mixed_form (negsuc 0) f (negsuc 0) most) (sym (distance_is n row xs ys s))
    ∙ ap₂ (λ (cs : List ℤ) (k : ℤ). record { coefs = cs; constant = k }) (coefs_turned row.coefs xs ys 0 n most.coefs)
    (constant (dot row.coefs (constants_of (differences xs ys))) (dot row.coefs (constants_of (differences ys xs))) most.constant (dots_opposite row.coefs (constants_of (differences xs ys)) (constants_of (differences ys xs)) (constants_opposite xs ys)))
    ∙ ap (λ (f : Affine). gap_row most f 0) (distance_is n row ys xs t)
  where
    constant : (a b m : ℤ) → a +ℤ b ≡ pos 0 → (negsuc 0 *ℤ (a +ℤ pos 0)) +ℤ (negsuc 0 *ℤ m) ≡ ((pos 1 *ℤ (b +ℤ pos 0)) +ℤ (negsuc 0 *ℤ m)) -ℤ pos 0
    constant a b m e = omega (arith, ints, e)

-- ---- It doesn't leave the range of the code's numbers

entry_narrow : (c d : ℤ) → unsigned_abs c ≤ 2 ^ 110 → unsigned_abs d ≤ 2 ^ 110 → 2 ^ 126 < entry_magnitude (negsuc 0) c (negsuc 0) d → ⊥
entry_narrow c d h g w = absurd (omega arith)

entries_narrow : (cs ds : List ℤ) → All (λ c. unsigned_abs c ≤ 2 ^ 110) cs → All (λ c. unsigned_abs c ≤ 2 ^ 110) ds → TooWide (mixed_magnitudes (negsuc 0) cs (negsuc 0) ds) → ⊥
entries_narrow [] ds h g w = w
entries_narrow (c ∷ cs) [] h g w = w
entries_narrow (c ∷ cs) (d ∷ ds) h g (inl w) = entry_narrow c d (All-head (λ c. unsigned_abs c ≤ 2 ^ 110) c cs h) (All-head (λ c. unsigned_abs c ≤ 2 ^ 110) d ds g) w
entries_narrow (c ∷ cs) (d ∷ ds) h g (inr w) = entries_narrow cs ds (All-tail (λ c. unsigned_abs c ≤ 2 ^ 110) c cs h) (All-tail (λ c. unsigned_abs c ≤ 2 ^ 110) d ds g) w

pub turned_narrow : (n : ℕ) (a b : Affine) → IsWide n a → IsWide n b → TooWide (mixed_form_magnitudes (negsuc 0) a (negsuc 0) b) → ⊥
turned_narrow n a b s t (inl w) = entry_narrow a.constant b.constant s.constant_fits t.constant_fits w
turned_narrow n a b s t (inr w) = entries_narrow a.coefs b.coefs s.coefs_fit t.coefs_fit w
