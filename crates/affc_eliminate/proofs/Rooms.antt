-- Room for a value of one column between rows that are positive and rows that are negative there.
use Rattle.std.proofs.Common.{◌≡◌, ℕ, ◌*◌, ◌<◌, List, [], ◌∷◌, length, map, ℤ, pos, negsuc, ◌+ℤ◌, ◌*ℤ◌, ◌≤ℤ◌, ◌<ℤ◌, neg_ℤ, sym, ap, subst, ◌∙◌, arith}
use Rattle.std.specs.Prelude.{unsigned_abs}
use Rattle.std.specs.List.{All}
use Rattle.std.proofs.lemmas.Int.{ints}
use Rattle.std.proofs.lemmas.List.Elements.{All-nil, All-cons, All-head, All-tail, All-weaker}
use lib.IntN.{*ℤ_comm}
use Rattle.affc_rows.specs.Forms.{Affine}
use Rattle.affc_rows.proofs.IntLemmas.{mul-add, mul_assoc, neg-mul}
use Rattle.affc_farkas.specs.Multiples.{entry_of}
use Rattle.affc_farkas.specs.Rational.{scaled_value}
use Rattle.affc_farkas.specs.Eliminations.{AreFactors}
use Rattle.affc_farkas.proofs.Between.{nonneg_product, cancel, swap, MeetsAt, HoldsFlat, LeaveRoom, Each, AllLeaveRoom, value_between}
use Rattle.affc_eliminate.specs.Points.{HoldAt, Extends, with_value}
use Rattle.affc_eliminate.proofs.Values.{moved_value, shifted}

-- a row as its coefficient in the column and its value at the point
abbrev pub part_at : ℕ → List ℤ → ℤ → Affine → ℤ × ℤ
part_at k x d f = (entry_of f k, scaled_value f x d)

pub pos_abs : (z : ℤ) (n : ℕ) → pos 0 <ℤ z → n ≡ unsigned_abs z → z ≡ pos n
pos_abs (pos m) n h e = ap pos (sym e)
pos_abs (negsuc m) n h e = absurd (omega (arith, ints))

pub neg_abs : (z : ℤ) (n : ℕ) → z <ℤ pos 0 → n ≡ unsigned_abs z → neg_ℤ z ≡ pos n
neg_abs (pos m) n h e = absurd (omega (arith, ints))
neg_abs (negsuc m) n h e = ap pos (sym e)

weaker : (n : ℕ) → pos 0 ≤ℤ pos n
weaker n = omega (arith, ints)

two_times : (g s t : ℕ) (f v : ℤ) → pos g *ℤ ((pos s *ℤ f) +ℤ (pos t *ℤ v)) ≡ (pos (g * s) *ℤ f) +ℤ (pos (g * t) *ℤ v)
two_times g s t f v = mul-add (pos g) (pos s *ℤ f) (pos t *ℤ v) ∙ ap (λ z. z +ℤ (pos g *ℤ (pos t *ℤ v))) (sym (mul_assoc (pos g) (pos s) f)) ∙ ap (λ z. (pos (g * s) *ℤ f) +ℤ z) (sym (mul_assoc (pos g) (pos t) v))

-- where the row that cancels is at least 0, the two rows leave room
pub room_of_mixture : (a b f v r : ℤ) (s t h : ℕ) → AreFactors (unsigned_abs a) (unsigned_abs b) s t
    → pos h *ℤ r ≡ (pos s *ℤ f) +ℤ (pos t *ℤ v) → pos 0 ≤ℤ r → LeaveRoom (a, f) (b, v)
room_of_mixture a b f v r s t h factors e met above below =
    let m = nonneg_product (pos h) r (weaker h) met in
    let w = nonneg_product (pos factors.divisor) ((pos s *ℤ f) +ℤ (pos t *ℤ v)) (weaker factors.divisor) (subst (λ z. pos 0 ≤ℤ z) e m) in
    let u = subst (λ z. pos 0 ≤ℤ z) (two_times factors.divisor s t f v) w in
    let pa = pos_abs a (factors.divisor * t) above factors.second in
    let pb = neg_abs b (factors.divisor * s) below factors.first in
    subst (λ z. pos 0 ≤ℤ ((neg_ℤ b *ℤ f) +ℤ (z *ℤ v))) (sym pa) (subst (λ z. pos 0 ≤ℤ ((z *ℤ f) +ℤ (pos (factors.divisor * t) *ℤ v))) (sym pb) u)

-- ---- A row and its opposite leave room to all others where they leave it to each

positive_weak : (a : ℤ) → pos 0 <ℤ a → pos 0 ≤ℤ a
positive_weak a h = omega (arith, ints)

flipped_weak : (a : ℤ) → a <ℤ pos 0 → pos 0 ≤ℤ neg_ℤ a
flipped_weak a h = omega (arith, ints)

one_up : (a : ℤ) → pos 0 <ℤ a → pos 1 ≤ℤ a
one_up a h = omega (arith, ints)

pub mul-neg : (s w : ℤ) → s *ℤ neg_ℤ w ≡ neg_ℤ (s *ℤ w)
mul-neg s w = *ℤ_comm s (neg_ℤ w) ∙ neg-mul w s ∙ ap neg_ℤ (*ℤ_comm w s)

pub neg_neg : (a : ℤ) → neg_ℤ (neg_ℤ a) ≡ a
neg_neg a = omega (arith, ints)

-- with n for -e.0: n (p c.1 - c.0 v) and c.0 (n v + p e.1) sum to p (n c.1 + c.0 e.1)
cancelled_sum : (n p c0 c1 v e1 u w z npc ncv cnv cpe pnc pce : ℤ)
    → u ≡ npc +ℤ neg_ℤ ncv → w ≡ cnv +ℤ cpe → ncv ≡ cnv → z ≡ pnc +ℤ pce → npc ≡ pnc → cpe ≡ pce → pos 0 ≤ℤ u → pos 0 ≤ℤ w → pos 0 ≤ℤ z
cancelled_sum n p c0 c1 v e1 u w z npc ncv cnv cpe pnc pce a b c d e f g h = omega (arith, ints)

pub room_by_opposites : (p v : ℤ) (c e : ℤ × ℤ) → pos 0 <ℤ p → LeaveRoom c (neg_ℤ p, neg_ℤ v) → LeaveRoom (p, v) e → LeaveRoom c e
room_by_opposites p v (c0, c1) (e0, e1) one first second above below =
    let q : neg_ℤ p <ℤ pos 0 = omega (arith, ints) in
    let n = neg_ℤ e0 in
    let a = subst (λ z. pos 0 ≤ℤ ((z *ℤ c1) +ℤ (c0 *ℤ neg_ℤ v))) (neg_neg p) (first above q) in
    let b = second one below in
    let a' = nonneg_product n ((p *ℤ c1) +ℤ (c0 *ℤ neg_ℤ v)) (flipped_weak e0 below) a in
    let b' = nonneg_product c0 ((n *ℤ v) +ℤ (p *ℤ e1)) (positive_weak c0 above) b in
    let ea = mul-add n (p *ℤ c1) (c0 *ℤ neg_ℤ v) ∙ ap (λ z. (n *ℤ (p *ℤ c1)) +ℤ z) (ap (λ z. n *ℤ z) (mul-neg c0 v) ∙ mul-neg n (c0 *ℤ v)) in
    let eb = mul-add c0 (n *ℤ v) (p *ℤ e1) in
    let ez = mul-add p (n *ℤ c1) (c0 *ℤ e1) in
    cancel p ((n *ℤ c1) +ℤ (c0 *ℤ e1)) (one_up p one)
    (cancelled_sum n p c0 c1 v e1 _ _ (p *ℤ ((n *ℤ c1) +ℤ (c0 *ℤ e1))) (n *ℤ (p *ℤ c1)) (n *ℤ (c0 *ℤ v)) (c0 *ℤ (n *ℤ v)) (c0 *ℤ (p *ℤ e1)) (p *ℤ (n *ℤ c1)) (p *ℤ (c0 *ℤ e1))
    ea eb (swap n c0 v) ez (swap n p c1) (swap c0 p e1) a' b')

-- ---- Where all pairs leave room, the point extends

-- each flat row holds, and each two rows leave room
pub record LeaveRoomAll (k : ℕ) (x : List ℤ) (d : ℤ) (rows : List Affine) : Type 0 where
  pub flat : All (λ f. HoldsFlat (part_at k x d f)) rows
  pub room : All (λ f. All (λ g. LeaveRoom (part_at k x d f) (part_at k x d g)) rows) rows

each_flat : (k : ℕ) (x : List ℤ) (d : ℤ) (rows : List Affine) → All (λ f. HoldsFlat (part_at k x d f)) rows → Each HoldsFlat (map (part_at k x d) rows)
each_flat k x d [] h = tt
each_flat k x d (f ∷ fs) h = (All-head (λ f. HoldsFlat (part_at k x d f)) f fs h, each_flat k x d fs (All-tail (λ f. HoldsFlat (part_at k x d f)) f fs h))

each_room : (k : ℕ) (x : List ℤ) (d : ℤ) (f : Affine) (rows : List Affine) → All (λ g. LeaveRoom (part_at k x d f) (part_at k x d g)) rows → All (λ g. LeaveRoom (part_at k x d g) (part_at k x d f)) rows
    → Each (λ e. LeaveRoom (part_at k x d f) e × LeaveRoom e (part_at k x d f)) (map (part_at k x d) rows)
each_room k x d f [] h i = tt
each_room k x d f (g ∷ gs) h i = (
  (All-head (λ g. LeaveRoom (part_at k x d f) (part_at k x d g)) g gs h, All-head (λ g. LeaveRoom (part_at k x d g) (part_at k x d f)) g gs i),
  each_room k x d f gs (All-tail (λ g. LeaveRoom (part_at k x d f) (part_at k x d g)) g gs h) (All-tail (λ g. LeaveRoom (part_at k x d g) (part_at k x d f)) g gs i),
)

all_room : (k : ℕ) (x : List ℤ) (d : ℤ) (rows : List Affine) → All (λ f. All (λ g. LeaveRoom (part_at k x d f) (part_at k x d g)) rows) rows → AllLeaveRoom (map (part_at k x d) rows)
all_room k x d [] h = tt
all_room k x d (f ∷ fs) h =
    let R = λ (a : Affine) (b : Affine). LeaveRoom (part_at k x d a) (part_at k x d b) in
    let first = All-head (λ a. All (R a) (f ∷ fs)) f fs h in
    let rest = All-tail (λ a. All (R a) (f ∷ fs)) f fs h in (
      each_room k x d f fs (All-tail (R f) f fs first) (All-weaker (λ a. All (R a) (f ∷ fs)) (λ a. R a f) (λ a p. All-head (R a) f fs p) fs rest),
      all_room k x d fs (All-weaker (λ a. All (R a) (f ∷ fs)) (λ a. All (R a) fs) (λ a p. All-tail (R a) f fs p) fs rest),
    )

meet_all : (k : ℕ) (x : List ℤ) (d s y : ℤ) (rows : List Affine) → All (λ f. length f.coefs ≡ length x) rows → k < length x → Each (MeetsAt y s) (map (part_at k x d) rows)
    → HoldAt (with_value k x s (shifted k x s y)) (s *ℤ d) rows
meet_all k x d s y [] w lt m = All-nil (λ f. pos 0 ≤ℤ scaled_value f (with_value k x s (shifted k x s y)) (s *ℤ d))
meet_all k x d s y (f ∷ fs) w lt m = All-cons (λ f. pos 0 ≤ℤ scaled_value f (with_value k x s (shifted k x s y)) (s *ℤ d)) f fs
    (subst (λ z. pos 0 ≤ℤ z) (sym (moved_value k x d s y f (All-head (λ f. length f.coefs ≡ length x) f fs w) lt)) m.0)
    (meet_all k x d s y fs (All-tail (λ f. length f.coefs ≡ length x) f fs w) lt m.1)

pub extends : (k : ℕ) (x : List ℤ) (d : ℤ) (rows : List Affine) → All (λ f. length f.coefs ≡ length x) rows → k < length x → LeaveRoomAll k x d rows → Extends k x d rows
extends k x d rows w lt h =
    let v = value_between (map (part_at k x d) rows) (each_flat k x d rows h.flat) (all_room k x d rows h.room) in
    record { s = v.s; y = shifted k x v.s v.y; divisor = v.divisor; holds = meet_all k x d v.s v.y rows w lt v.meets }
