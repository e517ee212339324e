-- The greatest values over boxes.
use Rattle.std.proofs.Common.{◌≡◌, ℕ, zero, suc, ◌+◌, ◌<◌, List, [], ◌∷◌, length, drop, slice_index_or, ℤ, pos, negsuc, ◌+ℤ◌, ◌*ℤ◌, ◌≤ℤ◌, neg_ℤ, refl, ap, ◌∙◌, arith, inl, inr, add-one}
use Rattle.std.proofs.lemmas.Int.{ints, by_lt_z}
use Rattle.std.specs.List.{All}
use lib.IntN.{*ℤ_comm}
use Rattle.affc_rows.specs.Forms.{Affine, dot, value}
use Rattle.affc_rows.proofs.IntLemmas.{mul-nonneg, mul-add, neg-mul}
use Rattle.affc_simplex.specs.declared.bounds.Bound.{Bound}
use Rattle.affc_leaf.specs.Bounds.{IsBound, Inside, AllSingle, IsSum, bound_at, no_bound, lows, top, top_at, top_value}
use Rattle.affc_system.specs.Systems.{IsRow}
use Rattle.affc_system.specs.Order.{LexLe}

top-drop' : (i : ℕ) (cs : List ℤ) (bs : List Bound) → i < length cs → i < length bs
    → top (drop i cs) (drop i bs) ≡ top_at (slice_index_or cs i (pos 0)) (bound_at bs i) +ℤ top (drop (suc i) cs) (drop (suc i) bs)
top-drop' zero (c ∷ cs) (b ∷ bs) h k = refl
top-drop' (suc i) (c ∷ cs) (b ∷ bs) h k = top-drop' i cs bs (omega arith) (omega arith)
top-drop' i [] bs h k = absurd (omega arith)
top-drop' i (c ∷ cs) [] h k = absurd (omega arith)

pub top-drop : (i : ℕ) (cs : List ℤ) (bs : List Bound) → i < length cs → i < length bs
    → top (drop i cs) (drop i bs) ≡ top_at (slice_index_or cs i (pos 0)) (bound_at bs i) +ℤ top (drop (i + 1) cs) (drop (i + 1) bs)
top-drop i cs bs h k = simp add-one (top-drop' i cs bs h k)

step_up : (c lo x : ℤ) (w u v : ℤ) → pos 0 ≤ℤ w → w ≡ u +ℤ v → v ≡ neg_ℤ (c *ℤ lo) → u ≡ c *ℤ x → (c *ℤ lo) ≤ℤ (c *ℤ x)
step_up c lo x w u v h e f g = omega (arith, ints)

pub grows : (n : ℕ) (lo x : ℤ) → lo ≤ℤ x → (pos n *ℤ lo) ≤ℤ (pos n *ℤ x)
grows n lo x h =
    let d : pos 0 ≤ℤ (x +ℤ neg_ℤ lo) = omega (arith, ints) in
    let e = mul-add (pos n) x (neg_ℤ lo) in
    let f = *ℤ_comm (pos n) (neg_ℤ lo) ∙ neg-mul lo (pos n) ∙ ap neg_ℤ (*ℤ_comm lo (pos n)) in
    step_up (pos n) lo x _ (pos n *ℤ x) (pos n *ℤ neg_ℤ lo) (mul-nonneg n (x +ℤ neg_ℤ lo) d) e f refl

flip_le : (a b p q : ℤ) → p ≤ℤ q → a ≡ neg_ℤ p → b ≡ neg_ℤ q → b ≤ℤ a
flip_le a b p q h e f = omega (arith, ints)

falls : (n : ℕ) (lo x : ℤ) → lo ≤ℤ x → (negsuc n *ℤ x) ≤ℤ (negsuc n *ℤ lo)
falls n lo x h = flip_le (negsuc n *ℤ lo) (negsuc n *ℤ x) (pos (suc n) *ℤ lo) (pos (suc n) *ℤ x) (grows (suc n) lo x h) (neg-mul (pos (suc n)) lo) (neg-mul (pos (suc n)) x)

both_le : (a b c d : ℤ) → a ≤ℤ b → c ≤ℤ d → (a +ℤ c) ≤ℤ (b +ℤ d)
both_le a b c d h k = omega (arith, ints)

top_greatest : (cs : List ℤ) (bs : List Bound) (xs : List ℤ) → length cs ≡ length bs → Inside bs xs → dot cs xs ≤ℤ top cs bs
top_greatest [] bs xs h b = omega (arith, ints)
top_greatest (c ∷ cs) [] xs h b = absurd (omega arith)
top_greatest (c ∷ cs) (r ∷ rs) [] h b = absurd b
top_greatest (pos n ∷ cs) (r ∷ rs) (x ∷ xs) h b = both_le _ _ _ _ (grows n x r.high b.1) (top_greatest cs rs xs (omega arith) b.2)
top_greatest (negsuc n ∷ cs) (r ∷ rs) (x ∷ xs) h b = both_le _ _ _ _ (falls n r.low x b.0) (top_greatest cs rs xs (omega arith) b.2)

shift : (a b k : ℤ) → a ≤ℤ b → (a +ℤ k) ≤ℤ (b +ℤ k)
shift a b k h = omega (arith, ints)

pub value_top : (f : Affine) (bs : List Bound) (xs : List ℤ) → length f.coefs ≡ length bs → Inside bs xs → value f xs ≤ℤ top_value f bs
value_top f bs xs h b = shift _ _ f.constant (top_greatest f.coefs bs xs h b)

-- in a box of one point
single_later : (b : Bound) (bs : List Bound) → AllSingle (b ∷ bs) → AllSingle bs
single_later b bs h = λ k l. h (suc k) (omega arith)

top_single : (cs : List ℤ) (bs : List Bound) → length cs ≡ length bs → AllSingle bs → dot cs (lows bs) ≡ top cs bs
top_single [] bs h s = refl
top_single (c ∷ cs) [] h s = absurd (omega arith)
top_single (pos n ∷ cs) (b ∷ bs) h s =
    ap (λ z. (pos n *ℤ b.low) +ℤ z) (top_single cs bs (omega arith) (single_later b bs s))
    ∙ ap (λ z. (pos n *ℤ z) +ℤ top cs bs) (s zero (omega arith))
top_single (negsuc n ∷ cs) (b ∷ bs) h s = ap (λ z. (negsuc n *ℤ b.low) +ℤ z) (top_single cs bs (omega arith) (single_later b bs s))

pub value_single : (f : Affine) (bs : List Bound) → length f.coefs ≡ length bs → AllSingle bs → value f (lows bs) ≡ top_value f bs
value_single f bs h s = ap (λ z. z +ℤ f.constant) (top_single f.coefs bs h s)

pub lows_inside : (bs : List Bound) → All IsBound bs → Inside bs (lows bs)
lows_inside [] a = tt
lows_inside (b ∷ bs) a =
    let here : IsBound b = a zero no_bound (omega arith) in
    let low : b.low ≤ℤ b.low = omega (arith, ints) in
    (low, here.ordered, lows_inside bs (λ k d l. a (suc k) d (omega arith)))

pub lows_least : (bs : List Bound) (z : List ℤ) → Inside bs z → LexLe (lows bs) z
lows_least [] z p = tt
lows_least (b ∷ bs) [] p = absurd p
lows_least (b ∷ bs) (z ∷ zs) p =
    by_lt_z b.low z (λ l. inl l) (λ m. let e : b.low ≡ z = omega (arith, ints, p.0) in inr (e, lows_least bs zs p.2))

-- a row of a system keeps the limits of a sum
pub row_is_sum : (columns : ℕ) (row : Affine) → IsRow columns row → IsSum columns row
row_is_sum columns row h = record {
  width = h.width;
  fits = record {
    constant_fits = let s = h.fits.constant_fits in omega arith;
    coefs_fit = λ k d l. let s = h.fits.coefs_fit k d l in omega arith;
  };
}
