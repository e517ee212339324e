-- The leaf of a row that is below 0 in the whole box.
use Rattle.std.proofs.Common.{◌≡◌, ℕ, zero, suc, ◌+◌, ◌-◌, ◌<◌, ◌≤◌, List, [], ◌∷◌, ◌++◌, length, replicate, map, drop, slice_index_or, ℤ, pos, negsuc, ◌+ℤ◌, ◌*ℤ◌, ◌<ℤ◌, neg_ℤ, refl, sym, ap, subst, ◌∙◌, arith, add-one, append-nil}
use Rattle.std.proofs.lemmas.Int.{ints}
use Rattle.std.proofs.lemmas.List.Elements.{All-nil, All-cons, All-append}
use Rattle.std.specs.List.{All}
use lib.IntN.{*ℤ_comm}
use Rattle.affc_rows.specs.Forms.{Affine, mixed, mixed_form}
use Rattle.affc_rows.proofs.IntLemmas.{one-mul, neg-mul}
use Rattle.affc_system.specs.Systems.{Rows, IsRow}
use Rattle.affc_farkas.specs.Multiples.{multiple_sum, entry_of, AreMultipliers}
use Rattle.affc_farkas.specs.Proofs.{IsLeaf}
use Rattle.affc_farkas.proofs.Sound.{multiple_sum-width}
use Rattle.affc_simplex.specs.declared.bounds.Bound.{Bound}
use Rattle.affc_leaf.specs.Bounds.{bound_at, top, top_value}
use Rattle.affc_leaf.specs.Boxed.{unit}
use Rattle.affc_leaf.specs.Leaves.{corner_row, corner_rows, SameSum}
use Rattle.affc_leaf.specs.Parts.{PlacedBound, Placed}
use Rattle.affc_leaf.proofs.Sums.{sum_of_both, sum_shared}

-- ---- sums of a multiple of a column and of zeros with a rest

zero_term : (s : ℤ) → (s *ℤ pos 0) +ℤ (pos 1 *ℤ pos 0) ≡ pos 0
zero_term s = omega (arith, ints)

rest_term : (s d : ℤ) → (s *ℤ pos 0) +ℤ (pos 1 *ℤ d) ≡ d
rest_term s d = omega (arith, ints, one-mul d)

mixed_rest : (s : ℤ) (m : ℕ) (ds : List ℤ) → length ds ≡ m → mixed s (replicate m (pos 0)) (pos 1) ds ≡ ds
mixed_rest s zero [] h = refl
mixed_rest s zero (d ∷ ds) h = absurd (omega arith)
mixed_rest s (suc m) [] h = absurd (omega arith)
mixed_rest s (suc m) (d ∷ ds) h = ap (λ z. z ∷ mixed s (replicate m (pos 0)) (pos 1) ds) (rest_term s d) ∙ ap (λ l. d ∷ l) (mixed_rest s m ds (omega arith))

mixed_unit : (s a : ℤ) (o m : ℕ) (ds : List ℤ) → length ds ≡ m
    → mixed s (replicate o (pos 0) ++ a ∷ replicate m (pos 0)) (pos 1) (replicate (suc o) (pos 0) ++ ds) ≡ replicate o (pos 0) ++ ((s *ℤ a) +ℤ (pos 1 *ℤ pos 0)) ∷ ds
mixed_unit s a zero m ds h = ap (λ l. ((s *ℤ a) +ℤ (pos 1 *ℤ pos 0)) ∷ l) (mixed_rest s m ds h)
mixed_unit s a (suc o) m ds h =
    ap (λ z. z ∷ mixed s (replicate o (pos 0) ++ a ∷ replicate m (pos 0)) (pos 1) (replicate (suc o) (pos 0) ++ ds)) (zero_term s)
    ∙ ap (λ l. pos 0 ∷ l) (mixed_unit s a o m ds h)

negated_zeros : (m : ℕ) → map neg_ℤ (replicate m (pos 0)) ≡ replicate m (pos 0)
negated_zeros zero = refl
negated_zeros (suc m) = ap (λ l. pos 0 ∷ l) (negated_zeros m)

pub negated_unit : (o m : ℕ) → map neg_ℤ (unit o m) ≡ replicate o (pos 0) ++ negsuc 0 ∷ replicate m (pos 0)
negated_unit zero m = ap (λ l. negsuc 0 ∷ l) (negated_zeros m)
negated_unit (suc o) m = ap (λ l. pos 0 ∷ l) (negated_unit o m)

zero_over : (o : ℕ) (xs : List ℤ) → replicate (suc o) (pos 0) ++ xs ≡ replicate o (pos 0) ++ pos 0 ∷ xs
zero_over zero xs = refl
zero_over (suc o) xs = ap (λ l. pos 0 ∷ l) (zero_over o xs)

len-map : (cs : List ℤ) → length (map neg_ℤ cs) ≡ length cs
len-map [] = refl
len-map (c ∷ cs) = ap suc (len-map cs)

high_term : (n : ℕ) → (pos (suc n) *ℤ negsuc 0) +ℤ (pos 1 *ℤ pos 0) ≡ negsuc n
high_term n = omega (arith, ints)

low_term : (n : ℕ) → (pos (suc n) *ℤ pos 1) +ℤ (pos 1 *ℤ pos 0) ≡ pos (suc n)
low_term n = omega (arith, ints)

high_const : (s k b u t : ℤ) → k ≡ b → u ≡ t → (s *ℤ k) +ℤ (pos 1 *ℤ u) ≡ (s *ℤ b) +ℤ t
high_const s k b u t e f = ap (λ z. (s *ℤ z) +ℤ (pos 1 *ℤ u)) e ∙ ap (λ z. (s *ℤ b) +ℤ z) (one-mul u ∙ f)

turned : (n : ℕ) (b : ℤ) → pos (suc n) *ℤ neg_ℤ b ≡ negsuc n *ℤ b
turned n b = *ℤ_comm (pos (suc n)) (neg_ℤ b) ∙ neg-mul b (pos (suc n)) ∙ ap neg_ℤ (*ℤ_comm b (pos (suc n))) ∙ sym (neg-mul (pos (suc n)) b)

low_const : (n : ℕ) (k b u t : ℤ) → k ≡ neg_ℤ b → u ≡ t → (pos (suc n) *ℤ k) +ℤ (pos 1 *ℤ u) ≡ (negsuc n *ℤ b) +ℤ t
low_const n k b u t e f = high_const (pos (suc n)) k (neg_ℤ b) u t e f ∙ ap (λ z. z +ℤ t) (turned n b)

no_term : (b t : ℤ) → t ≡ (pos 0 *ℤ b) +ℤ t
no_term b t = omega (arith, ints)

-- ---- the sum of the bounds at the corner

pub record CornerSum (columns : ℕ) (rows : List Affine) (o : ℕ) (cs : List ℤ) (bs : List Bound) : Type 0 where
  pub there : All (λ p. p.0 < length rows) (corner_rows cs bs)
  pub coefs : (multiple_sum columns rows (corner_rows cs bs)).coefs ≡ replicate o (pos 0) ++ map neg_ℤ cs
  pub constant : (multiple_sum columns rows (corner_rows cs bs)).constant ≡ top cs bs

later : (columns : ℕ) (rows : List Affine) (o : ℕ) (b : Bound) (bs : List Bound)
    → ((k : ℕ) → k < length (b ∷ bs) → PlacedBound columns rows (o + k) (bound_at (b ∷ bs) k))
    → (k : ℕ) → k < length bs → PlacedBound columns rows (suc o + k) (bound_at bs k)
later columns rows o b bs h k l =
    let e : (o + suc k) ≡ (suc o + k) = omega arith in
    subst (λ n. PlacedBound columns rows n (bound_at bs k)) e (h (suc k) (omega arith))

pub corner_sum : (columns : ℕ) (rows : List Affine) (o : ℕ) (cs : List ℤ) (bs : List Bound) → o + length cs ≡ columns → length cs ≡ length bs
    → ((k : ℕ) → k < length bs → PlacedBound columns rows (o + k) (bound_at bs k)) → CornerSum columns rows o cs bs
corner_sum columns rows o [] bs w e h = record {
  there = All-nil (λ p. p.0 < length rows);
  coefs = let n : columns ≡ o = omega arith in ap (λ k. replicate k (pos 0)) n ∙ sym (append-nil (replicate o (pos 0)));
  constant = refl;
}
corner_sum columns rows o (c ∷ cs) [] w e h = absurd (omega arith)
corner_sum columns rows o (pos zero ∷ cs) (b ∷ bs) w e h =
    let r = corner_sum columns rows (suc o) cs bs (omega arith) (omega arith) (later columns rows o b bs h) in
    record {
      there = r.there;
      coefs = r.coefs ∙ zero_over o (map neg_ℤ cs);
      constant = r.constant ∙ no_term b.high (top cs bs);
    }
corner_sum columns rows o (pos (suc n) ∷ cs) (b ∷ bs) w e h =
    let r = corner_sum columns rows (suc o) cs bs (omega arith) (omega arith) (later columns rows o b bs h) in
    let z : (o + zero) ≡ o = omega arith in
    let here = subst (λ k. PlacedBound columns rows k b) z (h zero (omega arith)) in
    let m : length (map neg_ℤ cs) ≡ columns - (o + 1) = omega (arith, len-map cs) in
    record {
      there = All-cons (λ p. p.0 < length rows) (b.high_row, suc n) (corner_rows cs bs) here.high_there r.there;
      coefs = ap (λ l. mixed (pos (suc n)) l (pos 1) (multiple_sum columns rows (corner_rows cs bs)).coefs) (here.high_coefs ∙ negated_unit o (columns - (o + 1)))
          ∙ ap (λ l. mixed (pos (suc n)) (replicate o (pos 0) ++ negsuc 0 ∷ replicate (columns - (o + 1)) (pos 0)) (pos 1) l) r.coefs
          ∙ mixed_unit (pos (suc n)) (negsuc 0) o (columns - (o + 1)) (map neg_ℤ cs) m
          ∙ ap (λ v. replicate o (pos 0) ++ v ∷ map neg_ℤ cs) (high_term n);
      constant = high_const (pos (suc n)) _ b.high _ (top cs bs) here.high_constant r.constant;
    }
corner_sum columns rows o (negsuc n ∷ cs) (b ∷ bs) w e h =
    let r = corner_sum columns rows (suc o) cs bs (omega arith) (omega arith) (later columns rows o b bs h) in
    let z : (o + zero) ≡ o = omega arith in
    let here = subst (λ k. PlacedBound columns rows k b) z (h zero (omega arith)) in
    let m : length (map neg_ℤ cs) ≡ columns - (o + 1) = omega (arith, len-map cs) in
    record {
      there = All-cons (λ p. p.0 < length rows) (b.low_row, suc n) (corner_rows cs bs) here.low_there r.there;
      coefs = ap (λ l. mixed (pos (suc n)) l (pos 1) (multiple_sum columns rows (corner_rows cs bs)).coefs) here.low_coefs
          ∙ ap (λ l. mixed (pos (suc n)) (unit o (columns - (o + 1))) (pos 1) l) r.coefs
          ∙ mixed_unit (pos (suc n)) (pos 1) o (columns - (o + 1)) (map neg_ℤ cs) m
          ∙ ap (λ v. replicate o (pos 0) ++ v ∷ map neg_ℤ cs) (low_term n);
      constant = low_const n _ b.low _ (top cs bs) here.low_constant r.constant;
    }

-- ---- the leaf

self_term : (c : ℤ) → (pos 1 *ℤ c) +ℤ (pos 1 *ℤ neg_ℤ c) ≡ pos 0
self_term c = let a = one-mul c in let b = one-mul (neg_ℤ c) in omega (arith, ints)

cancelled : (cs : List ℤ) → mixed (pos 1) cs (pos 1) (map neg_ℤ cs) ≡ replicate (length cs) (pos 0)
cancelled [] = refl
cancelled (c ∷ cs) = ap (λ z. z ∷ mixed (pos 1) cs (pos 1) (map neg_ℤ cs)) (self_term c) ∙ ap (λ l. pos 0 ∷ l) (cancelled cs)

zero_entry : (n j : ℕ) (k : ℤ) → j < n → slice_index_or (replicate n (pos 0) ++ k ∷ []) j (pos 0) ≡ pos 0
zero_entry zero j k h = absurd (omega arith)
zero_entry (suc n) zero k h = refl
zero_entry (suc n) (suc j) k h = zero_entry n j k (omega arith)

below_one : (k u t w : ℤ) → u ≡ t → w ≡ t +ℤ k → w <ℤ pos 0 → ((pos 1 *ℤ k) +ℤ (pos 1 *ℤ u)) <ℤ pos 0
below_one k u t w e f h = let a = one-mul k in let b = one-mul u in omega (arith, ints)

later_there : (m n : ℕ) (by : List (ℕ × ℕ)) → m ≤ n → All (λ p. p.0 < m) by → All (λ p. p.0 < n) by
later_there m n by h a = λ k d l. let b = a k d l in omega arith

-- rows whose sum is below 0 in the whole box, and the corner at which it is greatest
pub leaf_valid : (system : Rows) (rows : List Affine) (next : ℕ) (bs : List Bound) (by m : List (ℕ × ℕ)) → Placed system rows next bs → length bs ≡ system.columns
    → All (IsRow system.columns) system.rows → All (λ p. p.0 < length system.rows) by → top_value (multiple_sum system.columns system.rows by) bs <ℤ pos 0
    → AreMultipliers m → SameSum m (by ++ corner_rows (multiple_sum system.columns system.rows by).coefs bs) → IsLeaf system.columns rows m
leaf_valid system rows next bs by m p w fit inside below good same =
    let columns = system.columns in
    let sum = multiple_sum columns system.rows by in
    let width : length sum.coefs ≡ columns = multiple_sum-width columns system.rows by fit inside in
    let r = corner_sum columns rows 0 sum.coefs bs (omega (arith, width)) (width ∙ sym w) (λ k h. let z : k ≡ (0 + k) = omega arith in subst (λ n. PlacedBound columns rows n (bound_at bs k)) z (p.bounded k h)) in
    let corner = corner_rows sum.coefs bs in
    let rest = multiple_sum columns rows corner in
    let all : All (λ q. q.0 < length rows) (by ++ corner) = All-append (λ q. q.0 < length rows) by corner (later_there (length system.rows) (length rows) by p.longer inside) r.there in
    let there = same.back (length rows) all in
    let rest_width : length rest.coefs ≡ columns = multiple_sum-width columns rows corner p.fit r.there in
    let e : multiple_sum columns rows m ≡ mixed_form (pos 1) sum (pos 1) rest =
    same.sums columns rows ∙ sum_of_both columns rows by corner rest_width ∙ ap (λ f. mixed_form (pos 1) f (pos 1) rest) (sum_shared columns system.rows rows (length system.rows) by p.own inside) in
    let zeros : mixed (pos 1) sum.coefs (pos 1) rest.coefs ≡ replicate columns (pos 0) =
    ap (λ q. mixed (pos 1) sum.coefs (pos 1) q) r.coefs ∙ cancelled sum.coefs ∙ ap (λ n. replicate n (pos 0)) width in
    let k = (pos 1 *ℤ sum.constant) +ℤ (pos 1 *ℤ rest.constant) in
    record {
      multipliers = good;
      there = there;
      cancels = λ j h. ap (λ f. entry_of f j) e ∙ ap (λ cs. slice_index_or (cs ++ k ∷ []) j (pos 0)) zeros ∙ zero_entry columns j k h;
      negative = subst (λ f. f.constant <ℤ pos 0) (sym e) (below_one sum.constant rest.constant (top sum.coefs bs) (top_value sum bs) r.constant refl below);
    }

-- ---- the multipliers as they are made

corner-drop' : (i : ℕ) (cs : List ℤ) (bs : List Bound) → i < length cs → i < length bs
    → corner_rows (drop i cs) (drop i bs) ≡ corner_row (slice_index_or cs i (pos 0)) (bound_at bs i) ++ corner_rows (drop (suc i) cs) (drop (suc i) bs)
corner-drop' zero (c ∷ cs) (b ∷ bs) h k = refl
corner-drop' (suc i) (c ∷ cs) (b ∷ bs) h k = corner-drop' i cs bs (omega arith) (omega arith)
corner-drop' i [] bs h k = absurd (omega arith)
corner-drop' i (c ∷ cs) [] h k = absurd (omega arith)

pub corner-drop : (i : ℕ) (cs : List ℤ) (bs : List Bound) → i < length cs → i < length bs
    → corner_rows (drop i cs) (drop i bs) ≡ corner_row (slice_index_or cs i (pos 0)) (bound_at bs i) ++ corner_rows (drop (i + 1) cs) (drop (i + 1) bs)
corner-drop i cs bs h k = simp add-one (corner-drop' i cs bs h k)
