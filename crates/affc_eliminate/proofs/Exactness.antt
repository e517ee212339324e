-- A step of an elimination is exact over the rational points.
use Rattle.std.proofs.Common.{◌≡◌, ℕ, ◌*◌, ◌<◌, ◌≤◌, List, [], ◌∷◌, length, map, get_or, ℤ, pos, ◌+ℤ◌, ◌*ℤ◌, ◌≤ℤ◌, ◌<ℤ◌, neg_ℤ, refl, sym, ap, subst, ◌∙◌, inl, inr, arith}
use Rattle.std.specs.Prelude.{unsigned_abs}
use Rattle.std.specs.List.{All, Contains}
use Rattle.std.proofs.lemmas.Int.{ints}
use Rattle.std.proofs.lemmas.List.{get_or-map, length-map}
use Rattle.std.proofs.lemmas.List.Elements.{All-cons, All-weaker, All-contains, All-contains_itself}
use lib.IntN.{zero-*ℤ}
use Rattle.affc_rows.specs.Forms.{Affine, dot}
use Rattle.affc_rows.proofs.IntLemmas.{neg-mul}
use Rattle.affc_farkas.specs.Multiples.{entry_of}
use Rattle.affc_farkas.specs.Rational.{scaled_value}
use Rattle.affc_farkas.specs.Eliminations.{AreFactors}
use Rattle.affc_farkas.proofs.Between.{nonneg_product, cancel, LeaveRoom, HoldsFlat}
use Rattle.affc_farkas.proofs.Implied.{holds_everywhere}
use Rattle.affc_eliminate.specs.Points.{HoldAt, Extends, with_value}
use Rattle.affc_rows.specs.Vocabulary.{opposite}
use Rattle.affc_eliminate.specs.Laws.{IsCombination, IsCombined, IsFrom, AreRowsOf, StepIsExact, SubstitutionIsExact, ImpliedRowIsSpare, TrivialRowIsSpare}
use Rattle.affc_eliminate.proofs.Values.{moved_value, mixed_value, shift_of, entry_inside}
use Rattle.affc_eliminate.proofs.Rooms.{mul-neg, neg_neg, part_at, pos_abs, neg_abs, room_of_mixture, room_by_opposites, extends}

-- ---- From an extension to the point

weaker_lt : (a b : ℕ) → a < b → a ≤ b
weaker_lt a b h = omega arith

flat_sum' : (z w : ℤ) → z ≡ pos 0 → z +ℤ w ≡ w
flat_sum' z w e = omega (arith, ints)

flat_sum : (a y w : ℤ) → a ≡ pos 0 → (a *ℤ y) +ℤ w ≡ w
flat_sum a y w e = ap (λ z. (z *ℤ y) +ℤ w) e ∙ flat_sum' (pos 0 *ℤ y) w (zero-*ℤ y)

-- a row without the column has s times its value at the extended point
pub down : (k : ℕ) (x : List ℤ) (d s y : ℤ) (r : Affine) → length r.coefs ≡ length x → k < length x → pos 1 ≤ℤ s → entry_of r k ≡ pos 0
    → pos 0 ≤ℤ scaled_value r (with_value k x s y) (s *ℤ d) → pos 0 ≤ℤ scaled_value r x d
down k x d s y r w lt one e h =
    let y' = y +ℤ neg_ℤ (s *ℤ get_or x k (pos 0)) in
    let same : scaled_value r (with_value k x s y) (s *ℤ d) ≡ s *ℤ scaled_value r x d =
    ap (λ z. scaled_value r (with_value k x s z) (s *ℤ d)) (sym (shift_of k x s y)) ∙ moved_value k x d s y' r w lt ∙ flat_sum (entry_of r k) y' (s *ℤ scaled_value r x d) e in
    cancel s (scaled_value r x d) one (subst (λ z. pos 0 ≤ℤ z) same h)

weak : (n : ℕ) → pos 0 ≤ℤ pos n
weak n = omega (arith, ints)

one_up : (n : ℕ) → 1 ≤ n → pos 1 ≤ℤ pos n
one_up n h = omega (arith, ints)

two_up : (a b : ℤ) → pos 0 ≤ℤ a → pos 0 ≤ℤ b → pos 0 ≤ℤ (a +ℤ b)
two_up a b h k = omega (arith, ints)

-- where both rows hold, their combination does
pub combination_holds : (column : ℕ) (f g r : Affine) (x : List ℤ) (d : ℤ) → IsCombination column f g r → length g.coefs ≡ length f.coefs
    → pos 0 ≤ℤ scaled_value f x d → pos 0 ≤ℤ scaled_value g x d → pos 0 ≤ℤ scaled_value r x d
combination_holds column f g r x d c w hf hg =
    cancel (pos c.divisor) (scaled_value r x d) (one_up c.divisor c.positive)
    (subst (λ z. pos 0 ≤ℤ z) (sym (mixed_value (pos c.divisor) (pos c.s) (pos c.t) f g r x d c.width w c.entries))
    (two_up (pos c.s *ℤ scaled_value f x d) (pos c.t *ℤ scaled_value g x d) (nonneg_product (pos c.s) (scaled_value f x d) (weak c.s) hf) (nonneg_product (pos c.t) (scaled_value g x d) (weak c.t) hg)))

both_zero : (z : ℤ) → pos 0 ≤ℤ z → pos 0 ≤ℤ neg_ℤ z → z ≡ pos 0
both_zero z h k = omega (arith, ints)

no_more : (w : ℤ) → w ≡ pos 0 → pos 0 ≤ℤ w
no_more w e = omega (arith, ints)

no_less : (w : ℤ) → w ≡ pos 0 → pos 0 ≤ℤ neg_ℤ w
no_less w e = omega (arith, ints)

pub factor_of_zero : (h : ℕ) (z : ℤ) → 1 ≤ h → pos h *ℤ z ≡ pos 0 → z ≡ pos 0
factor_of_zero h z one e =
    both_zero z (cancel (pos h) z (one_up h one) (no_more (pos h *ℤ z) e))
    (cancel (pos h) (neg_ℤ z) (one_up h one) (subst (λ v. pos 0 ≤ℤ v) (sym (mul-neg (pos h) z)) (no_less (pos h *ℤ z) e)))

balance : (u v w : ℤ) → neg_ℤ v ≡ w → u ≡ w → u +ℤ v ≡ pos 0
balance u v w e f = omega (arith, ints)

turned : (s g t : ℕ) → s * (g * t) ≡ t * (g * s)
turned s g t = omega arith

-- the factors of two entries of different signs cancel them
pub cancels : (a b : ℤ) (s t : ℕ) → AreFactors (unsigned_abs a) (unsigned_abs b) s t → pos 0 <ℤ a → b <ℤ pos 0 → (pos s *ℤ a) +ℤ (pos t *ℤ b) ≡ pos 0
cancels a b s t f above below =
    let u = pos_abs a (f.divisor * t) above f.second in
    let v = neg_abs b (f.divisor * s) below f.first in
    balance (pos s *ℤ a) (pos t *ℤ b) (pos (t * (f.divisor * s)))
    (sym (mul-neg (pos t) b) ∙ ap (λ z. pos t *ℤ z) v)
    (ap (λ z. pos s *ℤ z) u ∙ ap pos (turned s f.divisor t))

pub combination_flat : (column : ℕ) (f g r : Affine) → column ≤ length f.coefs → IsCombination column f g r → entry_of r column ≡ pos 0
combination_flat column f g r le c =
    factor_of_zero c.divisor (entry_of r column) c.positive (c.entries column le ∙ cancels (entry_of f column) (entry_of g column) c.s c.t c.factors c.above c.below)

-- where the point extends, each row that comes from the others holds
pub holds_down : (column width : ℕ) (rows : List Affine) (r : Affine) (x : List ℤ) (d : ℤ) → All (λ f. length f.coefs ≡ width) rows → column < width → length x ≡ width
    → IsFrom column rows r → Extends column x d rows → pos 0 ≤ℤ scaled_value r x d
holds_down column width rows r x d w lt l from e =
    let lt' : column < length x = subst (λ n. column < n) (sym l) lt in
    elim from [
      | inl h ↦ down column x d e.s e.y r (All-contains (λ f. length f.coefs ≡ width) rows r w h.0 ∙ sym l) lt' e.divisor h.1
          (All-contains (λ f. pos 0 ≤ℤ scaled_value f (with_value column x e.s e.y) (e.s *ℤ d)) rows r e.holds h.0)
      | inr h ↦
          let f = h.0 in
          let g = h.1 in
          let c = h.4 in
          let wf = All-contains (λ q. length q.coefs ≡ width) rows f w h.2 in
          let wg = All-contains (λ q. length q.coefs ≡ width) rows g w h.3 in
          let P = λ (q : Affine). pos 0 ≤ℤ scaled_value q (with_value column x e.s e.y) (e.s *ℤ d) in
          let flat = combination_flat column f g r (subst (λ n. column ≤ n) (sym wf) (weaker_lt column width lt)) c in
          down column x d e.s e.y r (c.width ∙ wf ∙ sym l) lt' e.divisor flat
          (combination_holds column f g r (with_value column x e.s e.y) (e.s *ℤ d) c (wg ∙ sym wf) (All-contains P rows f e.holds h.2) (All-contains P rows g e.holds h.3))
    ]

-- ---- From the point to an extension

pub combination_room : (column : ℕ) (f g r : Affine) (x : List ℤ) (d : ℤ) → IsCombination column f g r → length g.coefs ≡ length f.coefs → pos 0 ≤ℤ scaled_value r x d
    → LeaveRoom (part_at column x d f) (part_at column x d g)
combination_room column f g r x d c w h =
    room_of_mixture (entry_of f column) (entry_of g column) (scaled_value f x d) (scaled_value g x d) (scaled_value r x d) c.s c.t c.divisor c.factors
    (mixed_value (pos c.divisor) (pos c.s) (pos c.t) f g r x d c.width w c.entries) h

room_of_combined : (column width : ℕ) (rows new : List Affine) (f g : Affine) (x : List ℤ) (d : ℤ) → All (λ q. length q.coefs ≡ width) rows → Contains rows f → Contains rows g → HoldAt x d new
    → IsCombined column new f g → LeaveRoom (part_at column x d f) (part_at column x d g)
room_of_combined column width rows new f g x d w inf ing h c =
    combination_room column f g c.0 x d c.2 (All-contains (λ q. length q.coefs ≡ width) rows g w ing ∙ sym (All-contains (λ q. length q.coefs ≡ width) rows f w inf))
    (All-contains (λ q. pos 0 ≤ℤ scaled_value q x d) new c.0 h c.1)

-- ---- A row and its opposite

two_negs : (a b c d : ℤ) → a ≡ neg_ℤ b → c ≡ neg_ℤ d → a +ℤ c ≡ neg_ℤ (b +ℤ d)
two_negs a b c d e f = omega (arith, ints)

neg_entries : (cs xs : List ℤ) → dot (map neg_ℤ cs) xs ≡ neg_ℤ (dot cs xs)
neg_entries [] xs = refl
neg_entries (c ∷ cs) [] = refl
neg_entries (c ∷ cs) (x ∷ xs) = two_negs (neg_ℤ c *ℤ x) (c *ℤ x) (dot (map neg_ℤ cs) xs) (dot cs xs) (neg-mul c x) (neg_entries cs xs)

pub opposite_value : (f : Affine) (x : List ℤ) (d : ℤ) → scaled_value (opposite f) x d ≡ neg_ℤ (scaled_value f x d)
opposite_value f x d = two_negs (dot (map neg_ℤ f.coefs) x) (dot f.coefs x) (d *ℤ neg_ℤ f.constant) (d *ℤ f.constant) (neg_entries f.coefs x) (mul-neg d f.constant)

pub opposite_entry : (f : Affine) (j : ℕ) → j < length f.coefs → entry_of (opposite f) j ≡ neg_ℤ (entry_of f j)
opposite_entry f j lt =
    entry_inside (opposite f) j (subst (λ n. j < n) (sym (length-map f.coefs neg_ℤ)) lt)
    ∙ get_or-map neg_ℤ f.coefs j (pos 0) (pos 0) lt ∙ ap neg_ℤ (sym (entry_inside f j lt))

pub opposite_part : (column : ℕ) (x : List ℤ) (d : ℤ) (p : Affine) → column < length p.coefs → part_at column x d (opposite p) ≡ (neg_ℤ (entry_of p column), neg_ℤ (scaled_value p x d))
opposite_part column x d p lt = ap (λ z. (z, scaled_value (opposite p) x d)) (opposite_entry p column lt) ∙ ap (λ z. (neg_ℤ (entry_of p column), z)) (opposite_value p x d)

sum_none : (w v : ℤ) → v ≡ neg_ℤ w → pos 0 ≤ℤ (w +ℤ v)
sum_none w v e = omega (arith, ints)

-- a row and its opposite leave room
pub own_room : (p v : ℤ) → LeaveRoom (p, v) (neg_ℤ p, neg_ℤ v)
own_room p v above below = subst (λ z. pos 0 ≤ℤ ((z *ℤ v) +ℤ (p *ℤ neg_ℤ v))) (sym (neg_neg p)) (sum_none (p *ℤ v) (p *ℤ neg_ℤ v) (mul-neg p v))

-- ---- The laws

-- (a list of one kind of fact for each two rows)
each_two : (R : Affine → Affine → Type 0) (rows : List Affine) → ((f g : Affine) → Contains rows f → Contains rows g → R f g) → All (λ f. All (λ g. R f g) rows) rows
each_two R rows h = All-weaker (Contains rows) (λ f. All (λ g. R f g) rows) (λ f inf. All-weaker (Contains rows) (λ g. R f g) (λ g ing. h f g inf ing) rows (All-contains_itself rows)) rows (All-contains_itself rows)

pub extends_where_room : (column width : ℕ) (rows new : List Affine) (x : List ℤ) (d : ℤ) → AreRowsOf column width rows new → length x ≡ width → HoldAt x d new
    → ((f g : Affine) → Contains rows f → Contains rows g → LeaveRoom (part_at column x d f) (part_at column x d g)) → Extends column x d rows
extends_where_room column width rows new x d a l h room =
    extends column x d rows (All-weaker (λ f. length f.coefs ≡ width) (λ f. length f.coefs ≡ length x) (λ f e. e ∙ sym l) rows a.widths) (subst (λ n. column < n) (sym l) a.column_in) (record {
      flat = All-weaker (λ f. entry_of f column ≡ pos 0 → Contains new f) (λ f. HoldsFlat (part_at column x d f)) (λ f c e. All-contains (λ q. pos 0 ≤ℤ scaled_value q x d) new f h (c e)) rows a.flat;
      room = each_two (λ f g. LeaveRoom (part_at column x d f) (part_at column x d g)) rows room;
    })

holds_all_down : (column width : ℕ) (rows new : List Affine) (x : List ℤ) (d : ℤ) → AreRowsOf column width rows new → length x ≡ width → Extends column x d rows → HoldAt x d new
holds_all_down column width rows new x d a l e =
    All-weaker (IsFrom column rows) (λ r. pos 0 ≤ℤ scaled_value r x d) (λ r from. holds_down column width rows r x d a.widths a.column_in l from e) new a.from

pub step_is_exact : StepIsExact
step_is_exact column width rows new x d a c l one = (
  (λ h. extends_where_room column width rows new x d a l h (λ f g inf ing above below. room_of_combined column width rows new f g x d a.widths inf ing h (c f g inf ing above below) above below)),
  holds_all_down column width rows new x d a l,
)

pub substitution_is_exact : SubstitutionIsExact
substitution_is_exact column width rows new p x d a inp inn one_p cf cg l one = (
  (λ h.
      let lp : column < length p.coefs = subst (λ n. column < n) (sym (All-contains (λ q. length q.coefs ≡ width) rows p a.widths inp)) a.column_in in
      let part = opposite_part column x d p lp in
      let v = scaled_value p x d in
      let n : ℤ × ℤ = (neg_ℤ (entry_of p column), neg_ℤ v) in
      extends_where_room column width rows new x d a l h (λ f g inf ing above below.
      let first : LeaveRoom (part_at column x d f) n = elim (cf f inf above) [
        | inl e ↦ subst (λ q. LeaveRoom (part_at column x d q) n) (sym e) (own_room (entry_of p column) v)
        | inr c ↦ subst (λ q. LeaveRoom (part_at column x d f) q) part (room_of_combined column width rows new f (opposite p) x d a.widths inf inn h c)
      ] in
      let second : LeaveRoom (part_at column x d p) (part_at column x d g) = elim (cg g ing below) [
        | inl e ↦ subst (λ q. LeaveRoom (part_at column x d p) (part_at column x d q)) (sym e) (subst (λ q. LeaveRoom (part_at column x d p) q) (sym part) (own_room (entry_of p column) v))
        | inr c ↦ room_of_combined column width rows new p g x d a.widths inp ing h c
      ] in
      room_by_opposites (entry_of p column) v (part_at column x d f) (part_at column x d g) one_p first second above below)),
  holds_all_down column width rows new x d a l,
)

pub implied_row_is_spare : ImpliedRowIsSpare
implied_row_is_spare f g rest x d i inf l one h = All-cons (λ q. pos 0 ≤ℤ scaled_value q x d) g rest (i x d l one (All-contains (λ q. pos 0 ≤ℤ scaled_value q x d) rest f h inf)) h

pub trivial_row_is_spare : TrivialRowIsSpare
trivial_row_is_spare f rest x d t one h = All-cons (λ q. pos 0 ≤ℤ scaled_value q x d) f rest (holds_everywhere f x d t.0 t.1 one) h
