-- A box whose columns are narrowed to one value each, where no point of a system comes before.
use Rattle.std.proofs.lemmas.Bool.{cases_eq}
use Rattle.std.proofs.Common.{◌≡◌, ℕ, zero, suc, ◌+◌, ◌<◌, ◌≤◌, ◌^◌, List, [], ◌∷◌, length, slice_index_or, ℤ, pos, ◌-ℤ◌, ◌≤ℤ◌, ◌<ℤ◌, refl, sym, subst, ◌∙◌, arith, inl, inr, ◌⊎◌}
use Rattle.std.proofs.lemmas.Int.{ints, by_lt_z}
use Rattle.std.proofs.lemmas.List.{length-set, get_or-set_same, get_or-set_other}
use Rattle.std.proofs.lemmas.List.Elements.{All-set}
use Rattle.std.specs.Prelude.{unsigned_abs}
use borrow.Author.Differences.{abs_is}
use Rattle.std.specs.List.{All}
use Rattle.affc_system.specs.Systems.{Rows}
use Rattle.affc_system.specs.Order.{LexLe}
use Rattle.affc_simplex.specs.declared.bounds.Bound.{Bound}
use Rattle.affc_leaf.specs.Bounds.{IsBound, Inside, bound_at, lowered, no_bound}
use Rattle.affc_leaf.specs.Parts.{NoneIn, IsLeast}
use Rattle.affc_leaf.specs.Fronts.{IsFront, IsPinned, pinned}

-- each column before this one has one value
abbrev Single : List Bound → ℕ → Type 0
Single bs j = (k : ℕ) → k < j → (bound_at bs k).low ≡ (bound_at bs k).high

-- the point comes before all of the box with this value of the column
abbrev Behind : List Bound → ℕ → ℤ → List ℤ → Type 0
Behind bs j v z = (x : List ℤ) → Inside (pinned bs j v) x → LexLe x z

above : (b : Bound) (bs : List Bound) (v z : ℤ) (zs : List ℤ) → v <ℤ z → Behind (b ∷ bs) zero v (z ∷ zs)
above b bs v z zs h [] q = absurd q
above b bs v z zs h (x ∷ xs) q = inl (omega (arith, ints, h, q.1))

later : (b : Bound) (bs : List Bound) (j : ℕ) (v z : ℤ) (zs : List ℤ) → b.low ≡ b.high → b.low ≤ℤ z → z ≤ℤ b.high → Behind bs j v zs → Behind (b ∷ bs) (suc j) v (z ∷ zs)
later b bs j v z zs e l h f [] q = absurd q
later b bs j v z zs e l h f (x ∷ xs) q =
    let g : x ≡ z = omega (arith, ints, e, l, h, q.0, q.1) in
    inr (g, f xs q.2)

-- a point of the box lies below the value, at it or above it
ways : (bs : List Bound) (j : ℕ) (v : ℤ) (r : ℕ) (z : List ℤ) → j < length bs → Single bs j → Inside bs z
    → Inside (lowered bs j (v -ℤ pos 1) r) z ⊎ (Inside (pinned bs j v) z ⊎ Behind bs j v z)
ways [] j v r z t s p = absurd (omega (arith, t))
ways (b ∷ bs) j v r [] t s p = absurd p
ways (b ∷ bs) zero v r (z ∷ zs) t s p =
    by_lt_z v z
    (λ more. inr (inr (above b bs v z zs more)))
    (λ most. by_lt_z z v
    (λ less. let m : z ≤ℤ (v -ℤ pos 1) = omega (arith, ints, less) in inl (p.0, m, p.2))
    (λ least. inr (inl (least, most, p.2))))
ways (b ∷ bs) (suc j) v r (z ∷ zs) t s p =
    elim (ways bs j v r zs (omega (arith, t)) (λ k h. s (suc k) (omega (arith, h))) p.2) [
      | inl l ↦ inl (p.0, p.1, l)
      | inr u ↦ elim u [
        | inl m ↦ inr (inl (p.0, p.1, m))
        | inr f ↦ inr (inr (later b bs j v z zs (s zero (omega arith)) p.0 p.1 f))
      ]
    ]

-- a point of the box with one value of the column is one of the box
from_pinned : (bs : List Bound) (j : ℕ) (v : ℤ) (x : List ℤ) → j < length bs → (bound_at bs j).low ≤ℤ v → v ≤ℤ (bound_at bs j).high
    → Inside (pinned bs j v) x → Inside bs x
from_pinned [] j v x t l h p = absurd (omega (arith, t))
from_pinned (b ∷ bs) zero v [] t l h p = absurd p
from_pinned (b ∷ bs) zero v (x ∷ xs) t l h p =
    let lo : b.low ≤ℤ x = omega (arith, ints, l, p.0) in
    let hi : x ≤ℤ b.high = omega (arith, ints, h, p.1) in
    (lo, hi, p.2)
from_pinned (b ∷ bs) (suc j) v [] t l h p = absurd p
from_pinned (b ∷ bs) (suc j) v (x ∷ xs) t l h p = (p.0, p.1, from_pinned bs j v xs (omega (arith, t)) l h p.2)

-- where a point lies below the value, the value is above the low end
low_under : (bs : List Bound) (j : ℕ) (v : ℤ) (r : ℕ) (x : List ℤ) → j < length bs → Inside (lowered bs j (v -ℤ pos 1) r) x → (bound_at bs j).low <ℤ v
low_under [] j v r x t p = absurd (omega (arith, t))
low_under (b ∷ bs) zero v r [] t p = absurd p
low_under (b ∷ bs) (suc j) v r [] t p = absurd p
low_under (b ∷ bs) zero v r (x ∷ xs) t p = omega (arith, ints, p.0, p.1)
low_under (b ∷ bs) (suc j) v r (x ∷ xs) t p = low_under bs j v r xs (omega (arith, t)) p.2

pub pin_front : (system : Rows) (bs : List Bound) (j : ℕ) (v : ℤ) (r : ℕ) → j < length bs → Single bs j → (bound_at bs j).low ≤ℤ v → v ≤ℤ (bound_at bs j).high
    → ((bound_at bs j).low <ℤ v → NoneIn system (lowered bs j (v -ℤ pos 1) r)) → IsFront system bs (pinned bs j v)
pin_front system bs j v r t s l h none = record {
  within = λ x p. from_pinned bs j v x t l h p;
  first = λ z p q. elim (ways bs j v r z t s p) [
    | inl below ↦ absurd (none (low_under bs j v r z t below) z below q)
    | inr rest ↦ rest
  ];
}

pinned_bound : (b : Bound) (v : ℤ) → IsBound b → b.low ≤ℤ v → v ≤ℤ b.high → IsBound (record b { low = v; high = v })
pinned_bound b v i l h =
    let near : unsigned_abs v ≤ 2 ^ 60 = omega (arith, ints, abs_is v, abs_is b.low, abs_is b.high, i.low_near, i.high_near, l, h) in
    record { ordered = omega (arith, ints); low_near = near; high_near = near }

lowered_bound : (b : Bound) (v : ℤ) (r : ℕ) → IsBound b → b.low <ℤ v → v ≤ℤ b.high → IsBound (record b { high = v -ℤ pos 1; high_row = r })
lowered_bound b v r i l h =
    let at : ℤ = v -ℤ pos 1 in
    let order : b.low ≤ℤ at = omega (arith, ints, l) in
    let near : unsigned_abs at ≤ 2 ^ 60 = omega (arith, ints, abs_is at, abs_is b.low, abs_is b.high, i.low_near, i.high_near, l, h) in
    record { ordered = order; low_near = i.low_near; high_near = near }

pub lowered_ranges : (bs : List Bound) (j : ℕ) (v : ℤ) (r : ℕ) → All IsBound bs → j < length bs → (bound_at bs j).low <ℤ v → v ≤ℤ (bound_at bs j).high → All IsBound (lowered bs j (v -ℤ pos 1) r)
lowered_ranges bs j v r i t l h = All-set IsBound bs j (record (bound_at bs j) { high = v -ℤ pos 1; high_row = r }) (lowered_bound (bound_at bs j) v r (i j no_bound t) l h) i

pub pin_pinned : (columns : ℕ) (bs : List Bound) (j : ℕ) (v : ℤ) → IsPinned columns bs j → j < length bs → (bound_at bs j).low ≤ℤ v → v ≤ℤ (bound_at bs j).high
    → IsPinned columns (pinned bs j v) (j + 1)
pin_pinned columns bs j v p t l h =
    let b : Bound = record (bound_at bs j) { low = v; high = v } in
    record {
      width = length-set bs j b ∙ p.width;
      ranges = All-set IsBound bs j b (pinned_bound (bound_at bs j) v (p.ranges j no_bound t) l h) p.ranges;
      single = λ k m. elim (cases_eq k j) [
        | inl e ↦ subst (λ n. (bound_at (pinned bs j v) n).low ≡ (bound_at (pinned bs j v) n).high) (sym e)
            (subst (λ d. d.low ≡ d.high) (sym (get_or-set_same bs j b no_bound t)) refl)
        | inr n ↦ subst (λ d. d.low ≡ d.high) (sym (get_or-set_other bs j k b no_bound n)) (p.single k (omega (arith, m, n)))
      ];
    }

pub front_of_itself : (system : Rows) (bs : List Bound) → IsFront system bs bs
front_of_itself system bs = record { within = λ x p. p; first = λ z p q. inl p }

pub other_bound : (bs : List Bound) (i : ℕ) (d e : Bound) → i < length bs → slice_index_or bs i d ≡ slice_index_or bs i e
other_bound [] i d e h = absurd (omega (arith, h))
other_bound (b ∷ bs) zero d e h = refl
other_bound (b ∷ bs) (suc i) d e h = other_bound bs i d e (omega (arith, h))

-- the least point of a front is the box's
pub front_least : (system : Rows) (bs part : List Bound) (x : List ℤ) → IsFront system bs part → IsLeast system part x → IsLeast system bs x
front_least system bs part x f l = record {
  inside = f.within x l.inside;
  meets = l.meets;
  least = λ z q p. elim (f.first z q p) [
    | inl there ↦ l.least z there p
    | inr behind ↦ behind x l.inside
  ];
}
