-- Corners of boxes, and the values and magnitudes of forms at them.
use Rattle.std.proofs.Common.{◌≡◌, ℕ, zero, suc, ◌+◌, ◌*◌, ◌<◌, ◌≤◌, ◌⊎◌, inl, inr, Bool, true, false, List, [], ◌∷◌, length, drop, get_or, ℤ, pos, negsuc, ◌+ℤ◌, ◌*ℤ◌, neg_ℤ, ◌≤ℤ◌, refl, sym, ap, subst, ◌∙◌, arith, add-one}
use Rattle.std.proofs.lemmas.Int.{ints, unsigned_abs-mul}
use Rattle.std.proofs.lemmas.Bool.{cases_lt}
use Rattle.std.proofs.Math.Nat.{mul-le-mul_left}
use Rattle.std.specs.Prelude.{unsigned_abs}
use Rattle.affc_rows.specs.Forms.{Affine, dot, dot_magnitude, value, magnitude}
use Rattle.affc_rows.proofs.IntLemmas.{mul-nonneg, mul-add, neg-mul, abs-add}
use Rattle.affc_rows.proofs.FormLemmas.{sum_step, weight_step}
use Rattle.affc_system.specs.Boxes.{IsBox, InBox, IsCorner, end_of, corner, reach, box_magnitude}
use lib.IntN.{*ℤ_comm}

-- a box without its first range
rest_is_box : (r : ℤ × ℤ) (rs : List (ℤ × ℤ)) → IsBox (r ∷ rs) → IsBox rs
rest_is_box r rs b k d h = b (suc k) d (omega arith)

pub corner_in_box : (rs : List (ℤ × ℤ)) (xs : List ℤ) → IsBox rs → IsCorner rs xs → InBox rs xs
corner_in_box [] [] b k = tt
corner_in_box [] (x ∷ xs) b k = k
corner_in_box (r ∷ rs) [] b k = k
corner_in_box (r ∷ rs) (x ∷ xs) b k =
    let ordered : r.0 ≤ℤ r.1 = b 0 r (omega arith) in
    let low : r.0 ≤ℤ x = elim k.0 [ inl e ↦ omega (arith, ints) | inr e ↦ omega (arith, ints) ] in
    let high : x ≤ℤ r.1 = elim k.0 [ inl e ↦ omega (arith, ints) | inr e ↦ omega (arith, ints) ] in
    (low, high, corner_in_box rs xs (rest_is_box r rs b) k.1)

-- one column of what is left of the least or greatest sum
pub corner-drop : (g : Bool) (i : ℕ) (cs : List ℤ) (rs : List (ℤ × ℤ)) → i < length cs → i < length rs
    → dot (drop i cs) (corner g (drop i cs) (drop i rs)) ≡ (get_or cs i (pos 0) *ℤ end_of g (get_or cs i (pos 0)) (get_or rs i (pos 0, pos 0))) +ℤ dot (drop (suc i) cs) (corner g (drop (suc i) cs) (drop (suc i) rs))
corner-drop g zero (c ∷ cs) (r ∷ rs) h k = refl
corner-drop g (suc i) (c ∷ cs) (r ∷ rs) h k = corner-drop g i cs rs (omega arith) (omega arith)
corner-drop g i [] rs h k = absurd (omega arith)
corner-drop g i (c ∷ cs) [] h k = absurd (omega arith)

pub box_magnitude-drop : (i : ℕ) (cs : List ℤ) (rs : List (ℤ × ℤ)) → i < length cs → i < length rs
    → box_magnitude (drop i cs) (drop i rs) ≡ unsigned_abs (get_or cs i (pos 0)) * reach (get_or rs i (pos 0, pos 0)) + box_magnitude (drop (suc i) cs) (drop (suc i) rs)
box_magnitude-drop zero (c ∷ cs) (r ∷ rs) h k = refl
box_magnitude-drop (suc i) (c ∷ cs) (r ∷ rs) h k = box_magnitude-drop i cs rs (omega arith) (omega arith)
box_magnitude-drop i [] rs h k = absurd (omega arith)
box_magnitude-drop i (c ∷ cs) [] h k = absurd (omega arith)

-- a product with a factor of one sign keeps or turns the order
step_up : (c lo x : ℤ) (w u v : ℤ) → pos 0 ≤ℤ w → w ≡ u +ℤ v → v ≡ neg_ℤ (c *ℤ lo) → u ≡ c *ℤ x → (c *ℤ lo) ≤ℤ (c *ℤ x)
step_up c lo x w u v h e f g = omega (arith, ints)

pub grows : (n : ℕ) (lo x : ℤ) → lo ≤ℤ x → (pos n *ℤ lo) ≤ℤ (pos n *ℤ x)
grows n lo x h =
    let d : pos 0 ≤ℤ (x +ℤ neg_ℤ lo) = omega (arith, ints) in
    let e = mul-add (pos n) x (neg_ℤ lo) in
    let f = *ℤ_comm (pos n) (neg_ℤ lo) ∙ neg-mul lo (pos n) ∙ ap neg_ℤ (*ℤ_comm lo (pos n)) in
    step_up (pos n) lo x _ (pos n *ℤ x) (pos n *ℤ neg_ℤ lo) (mul-nonneg n (x +ℤ neg_ℤ lo) d) e f refl

flip_le : (a b p q : ℤ) → p ≤ℤ q → a ≡ neg_ℤ p → b ≡ neg_ℤ q → b ≤ℤ a
flip_le a b p q h e f = omega (arith, ints)

pub falls : (n : ℕ) (lo x : ℤ) → lo ≤ℤ x → (negsuc n *ℤ x) ≤ℤ (negsuc n *ℤ lo)
falls n lo x h = flip_le (negsuc n *ℤ lo) (negsuc n *ℤ x) (pos (suc n) *ℤ lo) (pos (suc n) *ℤ x) (grows (suc n) lo x h) (neg-mul (pos (suc n)) lo) (neg-mul (pos (suc n)) x)

both_le : (a b c d : ℤ) → a ≤ℤ b → c ≤ℤ d → (a +ℤ c) ≤ℤ (b +ℤ d)
both_le a b c d h k = omega (arith, ints)

least : (cs : List ℤ) (rs : List (ℤ × ℤ)) (xs : List ℤ) → length cs ≡ length rs → InBox rs xs → dot cs (corner false cs rs) ≤ℤ dot cs xs
least [] rs xs h b = omega (arith, ints)
least (c ∷ cs) [] xs h b = absurd (omega arith)
least (c ∷ cs) (r ∷ rs) [] h b = absurd b
least (pos n ∷ cs) (r ∷ rs) (x ∷ xs) h b = both_le _ _ _ _ (grows n r.0 x b.0) (least cs rs xs (omega arith) b.2)
least (negsuc n ∷ cs) (r ∷ rs) (x ∷ xs) h b = both_le _ _ _ _ (falls n x r.1 b.1) (least cs rs xs (omega arith) b.2)

greatest : (cs : List ℤ) (rs : List (ℤ × ℤ)) (xs : List ℤ) → length cs ≡ length rs → InBox rs xs → dot cs xs ≤ℤ dot cs (corner true cs rs)
greatest [] rs xs h b = omega (arith, ints)
greatest (c ∷ cs) [] xs h b = absurd (omega arith)
greatest (c ∷ cs) (r ∷ rs) [] h b = absurd b
greatest (pos n ∷ cs) (r ∷ rs) (x ∷ xs) h b = both_le _ _ _ _ (grows n x r.1 b.1) (greatest cs rs xs (omega arith) b.2)
greatest (negsuc n ∷ cs) (r ∷ rs) (x ∷ xs) h b = both_le _ _ _ _ (falls n r.0 x b.0) (greatest cs rs xs (omega arith) b.2)

shift : (k a b : ℤ) → a ≤ℤ b → (a +ℤ k) ≤ℤ (b +ℤ k)
shift k a b h = omega (arith, ints)

-- the value at the least corner is least, that at the greatest one is greatest
pub value_least : (f : Affine) (rs : List (ℤ × ℤ)) (xs : List ℤ) → length f.coefs ≡ length rs → InBox rs xs → value f (corner false f.coefs rs) ≤ℤ value f xs
value_least f rs xs h b = shift f.constant _ _ (least f.coefs rs xs h b)

pub value_greatest : (f : Affine) (rs : List (ℤ × ℤ)) (xs : List ℤ) → length f.coefs ≡ length rs → InBox rs xs → value f xs ≤ℤ value f (corner true f.coefs rs)
value_greatest f rs xs h b = shift f.constant _ _ (greatest f.coefs rs xs h b)

-- both are corners
end_is_end : (g : Bool) (c : ℤ) (r : ℤ × ℤ) → (end_of g c r ≡ r.0) ⊎ (end_of g c r ≡ r.1)
end_is_end true (pos n) r = inr refl
end_is_end false (pos n) r = inl refl
end_is_end true (negsuc n) r = inl refl
end_is_end false (negsuc n) r = inr refl

pub corner_is_corner : (g : Bool) (cs : List ℤ) (rs : List (ℤ × ℤ)) → length cs ≡ length rs → IsCorner rs (corner g cs rs)
corner_is_corner g [] [] h = tt
corner_is_corner g [] (r ∷ rs) h = absurd (omega arith)
corner_is_corner g (c ∷ cs) [] h = absurd (omega arith)
corner_is_corner g (c ∷ cs) (r ∷ rs) h = (end_is_end g c r, corner_is_corner g cs rs (omega arith))

-- no corner has a greater sum of magnitudes than the box
corner_reach : (r : ℤ × ℤ) (x : ℤ) → (x ≡ r.0) ⊎ (x ≡ r.1) → unsigned_abs x ≤ reach r
corner_reach r x k =
    elim k [
      | inl e ↦ let a = ap (λ z. unsigned_abs z) e in omega arith
      | inr e ↦ let a = ap (λ z. unsigned_abs z) e in omega arith
    ]

sum_le : (a b c d : ℕ) → a ≤ b → c ≤ d → a + c ≤ b + d
sum_le a b c d h k = omega arith

corner_magnitude : (cs : List ℤ) (rs : List (ℤ × ℤ)) (xs : List ℤ) → IsCorner rs xs → dot_magnitude cs xs ≤ box_magnitude cs rs
corner_magnitude [] rs xs k = omega arith
corner_magnitude (c ∷ cs) [] [] k = omega arith
corner_magnitude (c ∷ cs) [] (x ∷ xs) k = absurd k
corner_magnitude (c ∷ cs) (r ∷ rs) [] k = absurd k
corner_magnitude (c ∷ cs) (r ∷ rs) (x ∷ xs) k =
    sum_le _ _ _ _ (mul-le-mul_left (unsigned_abs c) (corner_reach r x k.0)) (corner_magnitude cs rs xs k.1)

pub magnitude_at_corner : (f : Affine) (rs : List (ℤ × ℤ)) (xs : List ℤ) (n : ℕ) → IsCorner rs xs → unsigned_abs f.constant + box_magnitude f.coefs rs ≤ n → magnitude f xs ≤ n
magnitude_at_corner f rs xs n k h = omega (arith, corner_magnitude f.coefs rs xs k)

-- and some corner has it
far_end : (r : ℤ × ℤ) → (x : ℤ) × ((x ≡ r.0) ⊎ (x ≡ r.1)) × (unsigned_abs x ≡ reach r)
far_end r = elim (cases_lt (unsigned_abs r.0) (unsigned_abs r.1)) [
  | inl h ↦ (r.1, inr refl, omega arith)
  | inr h ↦ (r.0, inl refl, omega arith)
]

far_corner : (cs : List ℤ) (rs : List (ℤ × ℤ)) → length cs ≡ length rs → (xs : List ℤ) × IsCorner rs xs × (dot_magnitude cs xs ≡ box_magnitude cs rs)
far_corner [] [] h = ([], tt, refl)
far_corner [] (r ∷ rs) h = absurd (omega arith)
far_corner (c ∷ cs) [] h = absurd (omega arith)
far_corner (c ∷ cs) (r ∷ rs) h =
    let here = far_end r in
    let rest = far_corner cs rs (omega arith) in
    let head = ap (λ n. unsigned_abs c * n) here.2 in
    (here.0 ∷ rest.0, (here.1, rest.1), ap (λ n. n + dot_magnitude cs rest.0) head ∙ ap (λ n. unsigned_abs c * reach r + n) rest.2)

pub corner_past : (m : ℕ) (f : Affine) (rs : List (ℤ × ℤ)) → length f.coefs ≡ length rs → m < unsigned_abs f.constant + box_magnitude f.coefs rs
    → (xs : List ℤ) × IsCorner rs xs × (m < magnitude f xs)
corner_past m f rs h p =
    let far = far_corner f.coefs rs h in
    let same = far.2 in
    (far.0, far.1, omega (arith, same))

-- the product of one column, and the sum with it, fit
pub product_within : (c x r : ℤ) (reach : ℕ) → r ≡ x → unsigned_abs x ≤ reach → unsigned_abs (c *ℤ r) ≤ unsigned_abs c * reach
product_within c x r reach e h =
    subst (λ z. unsigned_abs (c *ℤ z) ≤ unsigned_abs c * reach) (sym e) (rw unsigned_abs-mul (mul-le-mul_left (unsigned_abs c) h))

pub sum_within : (sum p : ℤ) (more : ℕ) → unsigned_abs p ≤ more → unsigned_abs (sum +ℤ p) ≤ unsigned_abs sum + more
sum_within sum p more h = omega (arith, abs-add sum p)

-- one column goes from what is left to the sum
pub corner_step : (g : Bool) (i : ℕ) (cs : List ℤ) (rs : List (ℤ × ℤ)) (new old whole : ℤ) → i < length cs → i < length rs
    → new ≡ old +ℤ (get_or cs i (pos 0) *ℤ end_of g (get_or cs i (pos 0)) (get_or rs i (pos 0, pos 0)))
    → old +ℤ dot (drop i cs) (corner g (drop i cs) (drop i rs)) ≡ whole → new +ℤ dot (drop (i + 1) cs) (corner g (drop (i + 1) cs) (drop (i + 1) rs)) ≡ whole
corner_step g i cs rs new old whole h k n w = simp add-one (sum_step _ _ _ _ _ _ n (corner-drop g i cs rs h k) w)

pub box_magnitude_step : (i : ℕ) (cs : List ℤ) (rs : List (ℤ × ℤ)) (new old whole : ℕ) → i < length cs → i < length rs
    → new ≡ old + unsigned_abs (get_or cs i (pos 0)) * reach (get_or rs i (pos 0, pos 0))
    → old + box_magnitude (drop i cs) (drop i rs) ≡ whole → new + box_magnitude (drop (i + 1) cs) (drop (i + 1) rs) ≡ whole
box_magnitude_step i cs rs new old whole h k n w = simp add-one (weight_step _ _ _ _ _ _ n (box_magnitude-drop i cs rs h k) w)
