-- The steps of the search.
use Rattle.std.proofs.Common.{◌≡◌, ℕ, ◌+◌, ◌-◌, ◌^◌, ◌<◌, ◌≤◌, List, length, slice_index_or, ℤ, pos, ◌+ℤ◌, ◌-ℤ◌, ◌≤ℤ◌, ◌<ℤ◌, sym, ap, subst, ◌∙◌, arith, inl, inr}
use Rattle.std.proofs.lemmas.Int.{ints}
use Rattle.std.proofs.lemmas.List.{length-set}
use Rattle.std.proofs.lemmas.List.Elements.{All-set}
use Rattle.std.specs.Prelude.{unsigned_abs}
use Rattle.std.specs.List.{All}
use borrow.Author.Differences.{abs_is}
use Rattle.affc_system.specs.Systems.{Rows, IsRow, IsPoint}
use Rattle.affc_system.specs.Order.{LexLe}
use Rattle.affc_farkas.specs.Multiples.{multiple_sum}
use Rattle.affc_farkas.proofs.Sound.{multiple_sum-width, multiple_sum-meets}
use Rattle.affc_simplex.specs.declared.bounds.Bound.{Bound}
use Rattle.affc_leaf.specs.Bounds.{IsBound, Inside, size, FirstFree, AllSingle, lowered, raised, bound_at, no_bound, lows, top_value}
use Rattle.affc_leaf.specs.Parts.{IsLeast, NoneIn, Ready}
use Rattle.affc_leaf.proofs.Halves.{halves_before, in_half, from_lower, from_upper, halves_points}
use Rattle.affc_leaf.proofs.Greatest.{value_top, value_single, lows_inside, lows_least}
use Rattle.affc_leaf.proofs.Fuels.{less_fuel, low_gap, high_gap, free_gap, same_fuel, low_less, high_less}

near : (lo hi at : ℤ) (m : ℕ) → unsigned_abs lo ≤ m → unsigned_abs hi ≤ m → lo ≤ℤ at → at ≤ℤ hi → unsigned_abs at ≤ m
near lo hi at m a b h k = omega (arith, ints, abs_is lo, abs_is hi, abs_is at)

lt_le : (a b : ℤ) → a <ℤ b → a ≤ℤ b
lt_le a b h = omega (arith, ints)

pub low_ready : (columns : ℕ) (bs : List Bound) (next left j : ℕ) (at : ℤ) → Ready columns bs next left → FirstFree bs j
    → (bound_at bs j).low ≤ℤ at → at <ℤ (bound_at bs j).high → ((at -ℤ (bound_at bs j).low) +ℤ (at -ℤ (bound_at bs j).low)) ≤ℤ ((bound_at bs j).high -ℤ (bound_at bs j).low)
    → (1 ≤ left) × Ready columns (lowered bs j at next) (next + 1) (left - 1)
low_ready columns bs next left j at r f l h m =
    let b = bound_at bs j in
    let old : IsBound b = r.ranges j no_bound f.there in
    let n : IsBound (record b { high = at; high_row = next }) = record { ordered = l; low_near = old.low_near; high_near = near b.low b.high at _ old.low_near old.high_near l (lt_le _ _ h) } in
    let u = less_fuel left bs j (record b { high = at; high_row = next }) f.there (free_gap b.low b.high f.free) (low_gap b.low b.high at l h m) r.fuel in
    let one = u.0 in (
      one,
      record {
        width = length-set bs j (record b { high = at; high_row = next }) ∙ r.width;
        ranges = All-set IsBound bs j _ n r.ranges;
        fuel = u.1;
        room = let room = r.room in omega arith;
      },
    )

pub high_ready : (columns : ℕ) (bs : List Bound) (next left j : ℕ) (at : ℤ) → Ready columns bs next left → FirstFree bs j
    → (bound_at bs j).low ≤ℤ at → at <ℤ (bound_at bs j).high → (((bound_at bs j).high -ℤ at) +ℤ ((bound_at bs j).high -ℤ at)) ≤ℤ (((bound_at bs j).high -ℤ (bound_at bs j).low) +ℤ pos 1)
    → Ready columns (raised bs j at next) (next + 1) (left - 1)
high_ready columns bs next left j at r f l h m =
    let b = bound_at bs j in
    let old : IsBound b = r.ranges j no_bound f.there in
    let more : b.low ≤ℤ (at +ℤ pos 1) = omega (arith, ints, l) in
    let most : (at +ℤ pos 1) ≤ℤ b.high = omega (arith, ints, h) in
    let n : IsBound (record b { low = at +ℤ pos 1; low_row = next }) = record { ordered = most; low_near = near b.low b.high _ _ old.low_near old.high_near more most; high_near = old.high_near } in
    let u = less_fuel left bs j (record b { low = at +ℤ pos 1; low_row = next }) f.there (free_gap b.low b.high f.free) (high_gap b.low b.high at l h m) r.fuel in
    let one = u.0 in
    record {
      width = length-set bs j (record b { low = at +ℤ pos 1; low_row = next }) ∙ r.width;
      ranges = All-set IsBound bs j _ n r.ranges;
      fuel = u.1;
      room = let room = r.room in omega arith;
    }

-- the point of a box of one point
pub lows_answer : (system : Rows) (bs : List Bound) → length bs ≡ system.columns → All IsBound bs → AllSingle bs
    → All (IsRow system.columns) system.rows → All (λ row. pos 0 ≤ℤ top_value row bs) system.rows → (xs : List ℤ) → xs ≡ lows bs → length xs ≡ length bs → IsLeast system bs xs
lows_answer system bs w r s fit none xs e len =
    subst (λ ys. IsLeast system bs ys) (sym e) (record {
      inside = lows_inside bs r;
      meets = record {
        width = ap length (sym e) ∙ len ∙ w;
        meets = λ k d l.
            let row = slice_index_or system.rows k d in
            let here : length row.coefs ≡ length bs = (fit k d l).width ∙ sym w in
            subst (λ z. pos 0 ≤ℤ z) (sym (value_single row bs here s)) (none k d l);
      };
      least = λ z p _. lows_least bs z p;
    })

below_all : (v t : ℤ) → v ≤ℤ t → t <ℤ pos 0 → pos 0 ≤ℤ v → ⊥
below_all v t a b c = omega (arith, ints)

-- rows whose sum is below 0 in the whole box
pub none_below : (system : Rows) (bs : List Bound) (by : List (ℕ × ℕ)) → length bs ≡ system.columns → All (IsRow system.columns) system.rows → All (λ p. p.0 < length system.rows) by
    → top_value (multiple_sum system.columns system.rows by) bs <ℤ pos 0 → NoneIn system bs
none_below system bs by w fit l b x p q =
    let sum = multiple_sum system.columns system.rows by in
    let here : length sum.coefs ≡ length bs = multiple_sum-width system.columns system.rows by fit l ∙ sym w in
    below_all _ _ (value_top sum bs x here p) b (multiple_sum-meets system.columns system.rows x by q.width fit q.meets l)

pub low_least : (system : Rows) (bs : List Bound) (j : ℕ) (at : ℤ) (next : ℕ) (x : List ℤ) → FirstFree bs j → at <ℤ (bound_at bs j).high
    → IsLeast system (lowered bs j at next) x → IsLeast system bs x
low_least system bs j at next x f h a = record {
  inside = from_lower bs j at next x f.there (lt_le _ _ h) a.inside;
  meets = a.meets;
  least = λ z p q. elim (in_half bs j at next next z f.there p) [ inl l ↦ a.least z l q | inr u ↦ halves_before bs j at next next x z f a.inside u ];
}

pub high_least : (system : Rows) (bs : List Bound) (j : ℕ) (at : ℤ) (next : ℕ) (x : List ℤ) → j < length bs → (bound_at bs j).low ≤ℤ at
    → NoneIn system (lowered bs j at next) → IsLeast system (raised bs j at next) x → IsLeast system bs x
high_least system bs j at next x f h n a = record {
  inside = from_upper bs j at next x f h a.inside;
  meets = a.meets;
  least = λ z p q. elim (in_half bs j at next next z f p) [ inl l ↦ absurd (n z l q) | inr u ↦ a.least z u q ];
}

pub kept_least : (system : Rows) (bs : List Bound) (j : ℕ) (at : ℤ) (next : ℕ) (x : List ℤ) → j < length bs → at <ℤ (bound_at bs j).high
    → NoneIn system (raised bs j at next) → IsLeast system (lowered bs j at next) x → IsLeast system bs x
kept_least system bs j at next x f h n a = record {
  inside = from_lower bs j at next x f (lt_le _ _ h) a.inside;
  meets = a.meets;
  least = λ z p q. elim (in_half bs j at next next z f p) [ inl l ↦ a.least z l q | inr u ↦ absurd (n z u q) ];
}

pub none_both : (system : Rows) (bs : List Bound) (j : ℕ) (at : ℤ) (next : ℕ) → j < length bs
    → NoneIn system (lowered bs j at next) → NoneIn system (raised bs j at next) → NoneIn system bs
none_both system bs j at next f n m x p q = elim (in_half bs j at next next x f p) [ inl l ↦ n x l q | inr u ↦ m x u q ]

pub low_part_ready : (columns : ℕ) (bs : List Bound) (next left j : ℕ) (at : ℤ) → Ready columns bs next left → (next + 1) + left < 2 ^ 32 → j < length bs
    → (bound_at bs j).low ≤ℤ at → at <ℤ (bound_at bs j).high → Ready columns (lowered bs j at next) (next + 1) left
low_part_ready columns bs next left j at r room there l h =
    let b = bound_at bs j in
    let old : IsBound b = r.ranges j no_bound there in
    let n : IsBound (record b { high = at; high_row = next }) = record { ordered = l; low_near = old.low_near; high_near = near b.low b.high at _ old.low_near old.high_near l (lt_le _ _ h) } in
    record {
      width = length-set bs j (record b { high = at; high_row = next }) ∙ r.width;
      ranges = All-set IsBound bs j _ n r.ranges;
      fuel = same_fuel left bs j (record b { high = at; high_row = next }) (low_less b.low b.high at l h) there r.fuel;
      room = room;
    }

pub high_part_ready : (columns : ℕ) (bs : List Bound) (next left j : ℕ) (at : ℤ) → Ready columns bs next left → (next + 1) + left < 2 ^ 32 → j < length bs
    → (bound_at bs j).low ≤ℤ at → at <ℤ (bound_at bs j).high → Ready columns (raised bs j at next) (next + 1) left
high_part_ready columns bs next left j at r room there l h =
    let b = bound_at bs j in
    let old : IsBound b = r.ranges j no_bound there in
    let more : b.low ≤ℤ (at +ℤ pos 1) = omega (arith, ints, l) in
    let most : (at +ℤ pos 1) ≤ℤ b.high = omega (arith, ints, h) in
    let n : IsBound (record b { low = at +ℤ pos 1; low_row = next }) = record { ordered = most; low_near = near b.low b.high _ _ old.low_near old.high_near more most; high_near = old.high_near } in
    record {
      width = length-set bs j (record b { low = at +ℤ pos 1; low_row = next }) ∙ r.width;
      ranges = All-set IsBound bs j _ n r.ranges;
      fuel = same_fuel left bs j (record b { low = at +ℤ pos 1; low_row = next }) (high_less b.low b.high at l h) there r.fuel;
      room = room;
    }

pub part_points : (bs : List Bound) (j : ℕ) (at : ℤ) (r : ℕ) → j < length bs → (bound_at bs j).low ≤ℤ at → at <ℤ (bound_at bs j).high
    → (size (lowered bs j at r) ≤ size bs) × (size (raised bs j at r) ≤ size bs)
part_points bs j at r h l u = let e = halves_points bs j at r r h l u in (omega arith, omega arith)

-- no point of the box is before its low corner
pub corner_least : (system : Rows) (bs : List Bound) (xs : List ℤ) → All IsBound bs → xs ≡ lows bs → IsPoint system xs → IsLeast system bs xs
corner_least system bs xs r e p = record {
  inside = subst (λ ys. Inside bs ys) (sym e) (lows_inside bs r);
  meets = p;
  least = λ z q _. subst (λ ys. LexLe ys z) (sym e) (lows_least bs z q);
}
