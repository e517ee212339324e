-- What the tests of the checker say.
use Rattle.std.proofs.Common.{◌≡◌, ℕ, ◌<◌, ◌≤◌, true, List, [], ◌∷◌, ◌++◌, length, ℤ, pos, ◌+ℤ◌, ◌*ℤ◌, ◌<ℤ◌, ◌≤ℤ◌, sym, ap, subst, ◌∙◌, arith}
use Rattle.std.proofs.lemmas.Int.{ints}
use Rattle.std.specs.List.{All}
use lib.Signed.{lt_z}
use Rattle.affc_rows.specs.Forms.{Affine}
use Rattle.affc_farkas.specs.Multiples.{multiple_sum, entry_of, IsRising, AreMultipliers}
use Rattle.affc_farkas.specs.Proofs.{IsLeaf}
use Rattle.std.proofs.Common.{length-append, ◌^◌}
use Rattle.std.proofs.lemmas.List.Elements.{All-push, All-nil, All-cons, All-head, All-tail}
use Rattle.std.proofs.Common.{zero, suc, take, ◌+◌, ◌-◌, slice_index_or, ltb}
use Rattle.std.proofs.lemmas.List.{take_more}
use Rattle.std.proofs.lemmas.Bool.Decides.{nat_tests}

lt_from : (a b : ℤ) → lt_z a b ≡ true → a <ℤ b
lt_from a b e = omega (arith, ints)

lt_to : (a b : ℤ) → a <ℤ b → lt_z a b ≡ true
lt_to a b h = let e : true ≡ lt_z a b = omega (arith, ints) in sym e

pub leaf_exact : (columns : ℕ) (rows : List Affine) (by : List (ℕ × ℕ)) (k : ℤ) → AreMultipliers by → k ≡ (multiple_sum columns rows by).constant
    → All (λ p. p.0 < length rows) by → ((j : ℕ) → j < columns → entry_of (multiple_sum columns rows by) j ≡ pos 0)
    → (lt_z k (pos 0) ≡ true → IsLeaf columns rows by) × (IsLeaf columns rows by → lt_z k (pos 0) ≡ true)
leaf_exact columns rows by k m e there cancels = (
  (λ t. record { multipliers = m; there = there; cancels = cancels; negative = subst (λ z. z <ℤ pos 0) e (lt_from k (pos 0) t) }),
  (λ l. lt_to k (pos 0) (subst (λ z. z <ℤ pos 0) (sym e) l.negative)),
)

pub floor_exact : (g rc sum low from : ℤ) → low ≡ g *ℤ rc → from ≡ g → low ≤ℤ sum
    → (lt_z sum (low +ℤ from) ≡ true → ((g *ℤ rc) ≤ℤ sum) × (sum <ℤ ((g *ℤ rc) +ℤ g))) × (((g *ℤ rc) ≤ℤ sum) × (sum <ℤ ((g *ℤ rc) +ℤ g)) → lt_z sum (low +ℤ from) ≡ true)
floor_exact g rc sum low from e f le =
    let same : low +ℤ from ≡ (g *ℤ rc) +ℤ g = ap (λ z. z +ℤ from) e ∙ ap (λ z. (g *ℤ rc) +ℤ z) f in (
      (λ t. (subst (λ z. z ≤ℤ sum) e le, subst (λ z. sum <ℤ z) same (lt_from _ _ t))),
      (λ h. lt_to _ _ (subst (λ z. sum <ℤ z) (sym same) h.1)),
    )

rising_push : (by : List (ℕ × ℕ)) (p : ℕ × ℕ) → IsRising by → All (λ q. q.0 < p.0) by → IsRising (by ++ p ∷ [])
rising_push [] p r h = (All-nil (λ q. p.0 < q.0), tt)
rising_push (q ∷ qs) p r h = (
  All-push (λ z. q.0 < z.0) qs p r.0 (All-head (λ z. z.0 < p.0) q qs h),
  rising_push qs p r.1 (All-tail (λ z. z.0 < p.0) q qs h),
)

pub more_multipliers : (by : List (ℕ × ℕ)) (row times : ℕ) → AreMultipliers by → length by < 1024 → 1 ≤ times → times ≤ 2 ^ 53 → All (λ p. p.0 < row) by → AreMultipliers (by ++ (row, times) ∷ [])
more_multipliers by row times m few one small above = record {
  few = omega (arith, length-append by ((row, times) ∷ []));
  positive = All-push (λ p. 1 ≤ p.1) by (row, times) m.positive one;
  small = All-push (λ p. p.1 ≤ 2 ^ 53) by (row, times) m.small small;
  rising = rising_push by (row, times) m.rising above;
}

lt_trans : (a b c : ℕ) → a < b → b < c → a < c
lt_trans a b c h k = omega arith

-- a row number above the last is above all
below_last : (p : ℕ × ℕ) (ps : List (ℕ × ℕ)) (row : ℕ) → IsRising (p ∷ ps) → (slice_index_or (p ∷ ps) (length ps) (0, 0)).0 < row → All (λ q. q.0 < row) (p ∷ ps)
below_last p [] row r h = All-cons (λ q. q.0 < row) p [] h (All-nil (λ q. q.0 < row))
below_last p (q ∷ qs) row r h =
    let rest = below_last q qs row r.1 h in
    All-cons (λ z. z.0 < row) p (q ∷ qs) (lt_trans p.0 q.0 row (All-head (λ z. p.0 < z.0) q qs r.0) (All-head (λ z. z.0 < row) q qs rest)) rest

above_last : (ps : List (ℕ × ℕ)) (row : ℕ) → IsRising ps → 0 < length ps → (slice_index_or ps (length ps - 1) (0, 0)).0 < row → All (λ q. q.0 < row) ps
above_last [] row r some h = absurd (omega arith)
above_last (q ∷ qs) row r some h =
    let i : length (q ∷ qs) - 1 ≡ length qs = omega arith in
    below_last q qs row r (subst (λ k. (slice_index_or (q ∷ qs) k (0, 0)).0 < row) i h)

ltb_from : (a b : ℕ) → a < b → ltb a b ≡ true
ltb_from a b h = grind (arith, nat_tests)

ltb_to : (a b : ℕ) → ltb a b ≡ true → a < b
ltb_to a b h = grind (arith, nat_tests)

pub above_exact : (ps : List (ℕ × ℕ)) (row : ℕ) → IsRising ps → 0 < length ps
    → (ltb (slice_index_or ps (length ps - 1) (0, 0)).0 row ≡ true → All (λ q. q.0 < row) ps) × (All (λ q. q.0 < row) ps → ltb (slice_index_or ps (length ps - 1) (0, 0)).0 row ≡ true)
above_exact ps row r some = (
  (λ t. above_last ps row r some (ltb_to _ _ t)),
  (λ a. ltb_from _ _ (a (length ps - 1) (0, 0) (omega arith))),
)

-- one row number more, above those before it
pub rising_more : (by : List (ℕ × ℕ)) (i : ℕ) (d : ℕ × ℕ) → i < length by → IsRising (take i by) → All (λ q. q.0 < (slice_index_or by i d).0) (take i by) → IsRising (take (i + 1) by)
rising_more by i d h r a = subst IsRising (sym (take_more by i d h)) (rising_push (take i by) (slice_index_or by i d) r a)

-- each row number is above those before it
pub rising_before : (by : List (ℕ × ℕ)) (i : ℕ) (d : ℕ × ℕ) → i < length by → IsRising by → All (λ q. q.0 < (slice_index_or by i d).0) (take i by)
rising_before [] i d h r = absurd (omega arith)
rising_before (p ∷ ps) zero d h r = All-nil (λ q. q.0 < p.0)
rising_before (p ∷ ps) (suc i) d h r =
    All-cons (λ q. q.0 < (slice_index_or ps i d).0) p (take i ps) (r.0 i d (omega arith)) (rising_before ps i d (omega arith) r.1)
