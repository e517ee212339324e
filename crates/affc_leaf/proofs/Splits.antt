-- The rows of splits.
use Rattle.std.proofs.Common.{◌≡◌, ℕ, ◌+◌, ◌-◌, ◌^◌, ◌<◌, ◌≤◌, List, [], ◌∷◌, ◌++◌, length, replicate, map, slice_set, ℤ, pos, ◌+ℤ◌, ◌-ℤ◌, ◌≤ℤ◌, ◌<ℤ◌, neg_ℤ, sym, ap, subst, ◌∙◌, arith, inl, inr, lit≤}
use Rattle.std.proofs.lemmas.Int.{ints}
use Rattle.std.proofs.lemmas.List.{length-set, get_or-set_same, get_or-set_other, get_or_append_left, length-append, length-replicate}
use Rattle.std.proofs.lemmas.List.Elements.{All-cons, All-append, All-replicate, All-push}
use Rattle.std.proofs.Math.Seq.{get_or-append_seam}
use Rattle.std.proofs.lemmas.Bool.{cases_eq}
use Rattle.std.specs.Prelude.{unsigned_abs}
use Rattle.std.specs.List.{All}
use borrow.Author.Differences.{abs_is}
use Rattle.affc_rows.specs.Forms.{Affine}
use Rattle.affc_system.specs.Systems.{Rows, IsRow}
use Rattle.affc_farkas.specs.Multiples.{row_at, zero_row}
use Rattle.affc_farkas.specs.Proofs.{IsValid, low_row, high_row}
use Rattle.affc_farkas.specs.declared.proof.Proof.{Proof}
use Rattle.affc_simplex.specs.declared.bounds.Bound.{Bound}
use Rattle.affc_leaf.specs.Bounds.{bound_at, no_bound, IsBound, lowered, raised}
use Rattle.affc_leaf.specs.Boxed.{unit}
use Rattle.affc_leaf.specs.Parts.{PlacedBound, Placed, IsEmpty}
use Rattle.affc_farkas.proofs.Entries.{negated_row}

-- an old row stays where it is, and the new one stands at the end
pub kept_row : (columns : ℕ) (rows : List Affine) (r : Affine) (k : ℕ) → k < length rows → row_at columns (rows ++ r ∷ []) k ≡ row_at columns rows k
kept_row columns rows r k h = get_or_append_left rows (r ∷ []) (zero_row columns) k h

pub new_row : (columns : ℕ) (rows : List Affine) (r : Affine) (n : ℕ) → length rows ≡ n → row_at columns (rows ++ r ∷ []) n ≡ r
new_row columns rows r n h = ap (row_at columns (rows ++ r ∷ [])) (sym h) ∙ get_or-append_seam rows r [] (zero_row columns)

pub longer : (rows : List Affine) (r : Affine) → length (rows ++ r ∷ []) ≡ length rows + 1
longer rows r = length-append rows (r ∷ [])

in_longer : (rows : List Affine) (r : Affine) (k : ℕ) → k < length rows → k < length (rows ++ r ∷ [])
in_longer rows r k h = let e = longer rows r in omega arith

pub kept_bound : (columns : ℕ) (rows : List Affine) (r : Affine) (j : ℕ) (b : Bound) → PlacedBound columns rows j b → PlacedBound columns (rows ++ r ∷ []) j b
kept_bound columns rows r j b p = record {
  low_there = in_longer rows r b.low_row p.low_there;
  low_coefs = ap (λ (q : Affine). q.coefs) (kept_row columns rows r b.low_row p.low_there) ∙ p.low_coefs;
  low_constant = ap (λ (q : Affine). q.constant) (kept_row columns rows r b.low_row p.low_there) ∙ p.low_constant;
  high_there = in_longer rows r b.high_row p.high_there;
  high_coefs = ap (λ (q : Affine). q.coefs) (kept_row columns rows r b.high_row p.high_there) ∙ p.high_coefs;
  high_constant = ap (λ (q : Affine). q.constant) (kept_row columns rows r b.high_row p.high_there) ∙ p.high_constant;
}

-- one bound is changed
changed : (columns : ℕ) (rows : List Affine) (bs : List Bound) (j : ℕ) (b : Bound) → j < length bs
    → ((k : ℕ) → k < length bs → PlacedBound columns rows k (bound_at bs k)) → PlacedBound columns rows j b
    → (k : ℕ) → k < length (slice_set bs j b) → PlacedBound columns rows k (bound_at (slice_set bs j b) k)
changed columns rows [] j b h old new k l = absurd (omega arith)
changed columns rows (a ∷ bs) j b h old new k l = elim (cases_eq k j) [
  | inl e ↦ subst (λ n. PlacedBound columns rows n (bound_at (slice_set (a ∷ bs) j b) n)) (sym e) (subst (λ d. PlacedBound columns rows j d) (sym (get_or-set_same (a ∷ bs) j b no_bound h)) new)
  | inr n ↦ subst (λ d. PlacedBound columns rows k d) (sym (get_or-set_other (a ∷ bs) j k b no_bound n)) (old k (let e = length-set (a ∷ bs) j b in omega (arith, e)))
]

with_row : (system : Rows) (rows : List Affine) (next : ℕ) (bs : List Bound) (j : ℕ) (b : Bound) (r : Affine) → Placed system rows next bs → j < length bs
    → IsRow system.columns r → PlacedBound system.columns (rows ++ r ∷ []) j b → Placed system (rows ++ r ∷ []) (next + 1) (slice_set bs j b)
with_row system rows next bs j b r p h fit new = record {
  count = longer rows r ∙ ap (λ n. n + 1) p.count;
  fit = All-push (IsRow system.columns) rows r p.fit fit;
  longer = let e = longer rows r in omega (arith, p.longer);
  own = λ i l. kept_row system.columns rows r i (omega (arith, p.longer)) ∙ p.own i l;
  bounded = changed system.columns (rows ++ r ∷ []) bs j b h (λ k l. kept_bound system.columns rows r k (bound_at bs k) (p.bounded k l)) new;
}

pub low_placed : (system : Rows) (rows : List Affine) (next : ℕ) (bs : List Bound) (j : ℕ) (at : ℤ) (r : Affine) → Placed system rows next bs → j < length bs
    → IsRow system.columns r → r.coefs ≡ map neg_ℤ (unit j (system.columns - (j + 1))) → r.constant ≡ at
    → Placed system (rows ++ r ∷ []) (next + 1) (lowered bs j at next)
low_placed system rows next bs j at r p h fit cs k =
    let columns = system.columns in
    let b = bound_at bs j in
    let old = kept_bound columns rows r j b (p.bounded j h) in
    let n = new_row columns rows r next p.count in
    let e = longer rows r in
    let count = p.count in
    with_row system rows next bs j (record b { high = at; high_row = next }) r p h fit (record {
      low_there = old.low_there;
      low_coefs = old.low_coefs;
      low_constant = old.low_constant;
      high_there = omega arith;
      high_coefs = ap (λ (q : Affine). q.coefs) n ∙ cs;
      high_constant = ap (λ (q : Affine). q.constant) n ∙ k;
    })

pub high_placed : (system : Rows) (rows : List Affine) (next : ℕ) (bs : List Bound) (j : ℕ) (at : ℤ) (r : Affine) → Placed system rows next bs → j < length bs
    → IsRow system.columns r → r.coefs ≡ unit j (system.columns - (j + 1)) → r.constant ≡ neg_ℤ (at +ℤ pos 1)
    → Placed system (rows ++ r ∷ []) (next + 1) (raised bs j at next)
high_placed system rows next bs j at r p h fit cs k =
    let columns = system.columns in
    let b = bound_at bs j in
    let old = kept_bound columns rows r j b (p.bounded j h) in
    let n = new_row columns rows r next p.count in
    let e = longer rows r in
    let count = p.count in
    with_row system rows next bs j (record b { low = at +ℤ pos 1; low_row = next }) r p h fit (record {
      low_there = omega arith;
      low_coefs = ap (λ (q : Affine). q.coefs) n ∙ cs;
      low_constant = ap (λ (q : Affine). q.constant) n ∙ k;
      high_there = old.high_there;
      high_coefs = old.high_coefs;
      high_constant = old.high_constant;
    })

-- the rows of a split of one column keep the limits
unit_width : (j columns : ℕ) → j < columns → length (unit j (columns - (j + 1))) ≡ columns
unit_width j columns h =
    let a = length-append (replicate j (pos 0)) (pos 1 ∷ replicate (columns - (j + 1)) (pos 0)) in
    let b = length-replicate j (pos 0) in
    let d = length-replicate (columns - (j + 1)) (pos 0) in
    omega arith

unit_small : (j n : ℕ) → All (λ c. unsigned_abs c ≤ 2 ^ 40) (unit j n)
unit_small j n = All-append (λ c. unsigned_abs c ≤ 2 ^ 40) (replicate j (pos 0)) (pos 1 ∷ replicate n (pos 0))
    (All-replicate (λ c. unsigned_abs c ≤ 2 ^ 40) j (pos 0) (lit≤ tt))
    (All-cons (λ c. unsigned_abs c ≤ 2 ^ 40) (pos 1) (replicate n (pos 0)) (lit≤ tt) (All-replicate (λ c. unsigned_abs c ≤ 2 ^ 40) n (pos 0) (lit≤ tt)))

pub unit_row : (columns j : ℕ) (k : ℤ) → j < columns → unsigned_abs k ≤ 2 ^ 60 → IsRow columns (record { coefs = unit j (columns - (j + 1)); constant = k })
unit_row columns j k h s = record {
  width = unit_width j columns h;
  fits = record { coefs_fit = unit_small j (columns - (j + 1)); constant_fits = s };
}

low_constant : (at k : ℤ) → k ≡ pos 0 → at -ℤ k ≡ at
low_constant at k e = ap (λ z. at -ℤ z) e ∙ (omega (arith, ints))

high_constant : (at k : ℤ) → k ≡ pos 0 → (k -ℤ at) -ℤ pos 1 ≡ neg_ℤ (at +ℤ pos 1)
high_constant at k e = ap (λ z. (z -ℤ at) -ℤ pos 1) e ∙ (omega (arith, ints))

plus_near : (at hi : ℤ) → (at +ℤ pos 1) ≤ℤ hi → unsigned_abs hi ≤ 2 ^ 60 → unsigned_abs at ≤ 2 ^ 60 → unsigned_abs (neg_ℤ (at +ℤ pos 1)) ≤ 2 ^ 60
plus_near at hi h a b = omega (arith, ints, abs_is hi, abs_is at, abs_is (neg_ℤ (at +ℤ pos 1)))

pub low_split_row : (columns j : ℕ) (at : ℤ) (f : Affine) → j < columns → unsigned_abs at ≤ 2 ^ 60 → f.coefs ≡ unit j (columns - (j + 1)) → f.constant ≡ pos 0
    → IsRow columns (low_row f at)
low_split_row columns j at f h s e k =
    let one = negated_row columns (record { coefs = unit j (columns - (j + 1)); constant = at }) at (unit_row columns j at h s) in
    subst (λ cs. IsRow columns (record { coefs = map neg_ℤ cs; constant = at -ℤ f.constant })) (sym e)
    (subst (λ z. IsRow columns (record { coefs = map neg_ℤ (unit j (columns - (j + 1))); constant = z })) (sym (low_constant at f.constant k)) one)

pub high_split_row : (columns j : ℕ) (at hi : ℤ) (f : Affine) → j < columns → unsigned_abs at ≤ 2 ^ 60 → (at +ℤ pos 1) ≤ℤ hi → unsigned_abs hi ≤ 2 ^ 60
    → f.coefs ≡ unit j (columns - (j + 1)) → f.constant ≡ pos 0 → IsRow columns (high_row f at)
high_split_row columns j at hi f h s m n e k =
    subst (λ cs. IsRow columns (record { coefs = cs; constant = (f.constant -ℤ at) -ℤ pos 1 })) (sym e)
    (subst (λ z. IsRow columns (record { coefs = unit j (columns - (j + 1)); constant = z })) (sym (high_constant at f.constant k)) (unit_row columns j (neg_ℤ (at +ℤ pos 1)) h (plus_near at hi m n s)))

next_le : (a b : ℤ) → a <ℤ b → (a +ℤ pos 1) ≤ℤ b
next_le a b h = omega (arith, ints)

near : (lo hi at : ℤ) (m : ℕ) → unsigned_abs lo ≤ m → unsigned_abs hi ≤ m → lo ≤ℤ at → at <ℤ hi → unsigned_abs at ≤ m
near lo hi at m a b h k = omega (arith, ints, abs_is lo, abs_is hi, abs_is at)

-- the parts of a split's validity
pub split_valid : (system : Rows) (bs : List Bound) (next j : ℕ) (at : ℤ) (f : Affine) (low high : Proof) → length bs ≡ system.columns → All IsBound bs → j < length bs
    → (bound_at bs j).low ≤ℤ at → at <ℤ (bound_at bs j).high → f.coefs ≡ unit j (system.columns - (j + 1)) → f.constant ≡ pos 0
    → IsEmpty system (lowered bs j at next) (next + 1) low → IsEmpty system (raised bs j at next) (next + 1) high
    → (rows : List Affine) → Placed system rows next bs
    → IsRow system.columns (low_row f at) × IsRow system.columns (high_row f at) × IsValid system.columns low (rows ++ low_row f at ∷ []) × IsValid system.columns high (rows ++ high_row f at ∷ [])
split_valid system bs next j at f low high w r free l h e k a b rows p =
    let there : j < system.columns = let t = free in omega arith in
    let here : IsBound (bound_at bs j) = r j no_bound free in
    let s = near _ _ at _ here.low_near here.high_near l h in
    let lr = low_split_row system.columns j at f there s e k in
    let hr = high_split_row system.columns j at (bound_at bs j).high f there s (next_le _ _ h) here.high_near e k in (
      lr,
      hr,
      a.valid (rows ++ low_row f at ∷ []) (low_placed system rows next bs j at (low_row f at) p free lr (ap (map neg_ℤ) e) (low_constant at f.constant k)),
      b.valid (rows ++ high_row f at ∷ []) (high_placed system rows next bs j at (high_row f at) p free hr e (high_constant at f.constant k)),
    )
