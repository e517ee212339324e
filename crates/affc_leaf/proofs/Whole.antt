-- The whole box.
use Rattle.std.proofs.Common.{◌≡◌, ℕ, zero, suc, ◌+◌, ◌-◌, ◌*◌, ◌^◌, ◌<◌, ◌≤◌, List, [], ◌∷◌, ◌++◌, length, map, ℤ, pos, negsuc, ◌-ℤ◌, ◌≤ℤ◌, neg_ℤ, refl, sym, ap, subst, ◌∙◌, arith, append_assoc}
use Rattle.std.proofs.lemmas.Int.{ints}
use Rattle.std.proofs.lemmas.List.{get_or_append_left, length-append}
use Rattle.std.proofs.lemmas.List.Elements.{All-append, All-cons, All-nil}
use Rattle.std.proofs.Math.Seq.{get_or-append_seam}
use Rattle.std.specs.Prelude.{unsigned_abs}
use Rattle.std.specs.List.{All}
use borrow.Author.Differences.{abs_is}
use Rattle.affc_rows.specs.Forms.{Affine}
use Rattle.affc_system.specs.Systems.{Rows, IsRow}
use Rattle.affc_farkas.specs.Multiples.{row_at, zero_row}
use Rattle.affc_simplex.specs.declared.bounds.Bound.{Bound}
use Rattle.affc_leaf.specs.Bounds.{bound_at, IsBound, Fuel, lows, ranges_of}
use Rattle.affc_system.specs.Boxes.{IsBox}
use Rattle.affc_system.specs.Pairs.{WithinReach}
use Rattle.affc_leaf.specs.Boxed.{unit, box_rows, with_box}
use Rattle.affc_leaf.specs.Points.{low_corner}
use Rattle.affc_leaf.specs.Parts.{PlacedBound, Placed, Ready, box_bounds, IsEmpty}
use Rattle.affc_farkas.specs.declared.proof.Proof.{Proof}
use Rattle.affc_farkas.specs.Proofs.{ValidProof}
use Rattle.affc_leaf.proofs.Splits.{unit_row}
use Rattle.affc_farkas.proofs.Entries.{negated_row}

pub bounds_width : (n : ℕ) (rs : List (ℤ × ℤ)) → length (box_bounds n rs) ≡ length rs
bounds_width n [] = refl
bounds_width n (r ∷ rs) = ap suc (bounds_width (n + 2) rs)

no_range : ℤ × ℤ
no_range = (pos 0, pos 0)

rest_reach : (r : ℤ × ℤ) (rs : List (ℤ × ℤ)) → All WithinReach (r ∷ rs) → All WithinReach rs
rest_reach r rs h = λ k d l. h (suc k) d (omega arith)

first_reach : (r : ℤ × ℤ) (rs : List (ℤ × ℤ)) → All WithinReach (r ∷ rs) → WithinReach r
first_reach r rs h = h zero r (omega arith)

rest_box : (r : ℤ × ℤ) (rs : List (ℤ × ℤ)) → IsBox (r ∷ rs) → IsBox rs
rest_box r rs h = λ k d l. h (suc k) d (omega arith)

first_range : (r : ℤ × ℤ) (rs : List (ℤ × ℤ)) → IsBox (r ∷ rs) → r.0 ≤ℤ r.1
first_range r rs h = h zero r (omega arith)

bounds_fit : (n : ℕ) (rs : List (ℤ × ℤ)) → IsBox rs → All WithinReach rs → All IsBound (box_bounds n rs)
bounds_fit n [] b h = All-nil IsBound
bounds_fit n (r ∷ rs) b h =
    let f = first_reach r rs h in
    All-cons IsBound (record { low = r.0; high = r.1; low_row = n; high_row = n + 1 }) (box_bounds (n + 2) rs)
    (record { ordered = first_range r rs b; low_near = f.low; high_near = f.high })
    (bounds_fit (n + 2) rs (rest_box r rs b) (rest_reach r rs h))

-- its ranges are those of the box
pub lows_back : (n : ℕ) (rs : List (ℤ × ℤ)) → lows (box_bounds n rs) ≡ low_corner rs
lows_back n [] = refl
lows_back n (r ∷ rs) = ap (λ l. r.0 ∷ l) (lows_back (n + 2) rs)

pub ranges_back : (n : ℕ) (rs : List (ℤ × ℤ)) → ranges_of (box_bounds n rs) ≡ rs
ranges_back n [] = refl
ranges_back n (r ∷ rs) = ap (λ l. r ∷ l) (ranges_back (n + 2) rs)

near_gap : (lo hi : ℤ) → unsigned_abs lo ≤ 2 ^ 60 → unsigned_abs hi ≤ 2 ^ 60 → unsigned_abs (hi -ℤ lo) < 2 ^ 62
near_gap lo hi a b = omega (arith, ints, abs_is lo, abs_is hi, abs_is (hi -ℤ lo))

bounds_fuel : (n : ℕ) (rs : List (ℤ × ℤ)) → All WithinReach rs → Fuel (62 * length rs) (box_bounds n rs)
bounds_fuel n [] h = tt
bounds_fuel n (r ∷ rs) h =
    let f = first_reach r rs h in
    let e : (62 * length rs) ≡ (62 * length (r ∷ rs) - 62) = omega arith in
    (62, (near_gap r.0 r.1 f.low f.high, omega arith, subst (λ m. Fuel m (box_bounds (n + 2) rs)) e (bounds_fuel (n + 2) rs (rest_reach r rs h))))

pub whole_ready : (columns n : ℕ) (rs : List (ℤ × ℤ)) → length rs ≡ columns → columns ≤ 128 → n ≤ 1024 → IsBox rs → All WithinReach rs
    → Ready columns (box_bounds n rs) (n + 2 * columns) (62 * columns)
whole_ready columns n rs w c m b h = record {
  width = bounds_width n rs ∙ w;
  ranges = bounds_fit n rs b h;
  fuel = subst (λ k. Fuel (62 * k) (box_bounds n rs)) w (bounds_fuel n rs h);
  room = omega arith;
}

-- the bounds stand at their rows
placed_later : (columns n j : ℕ) (front : List Affine) (rs : List (ℤ × ℤ)) → length front ≡ n
    → (k : ℕ) → k < length rs → PlacedBound columns (front ++ box_rows columns j rs) (j + k) (bound_at (box_bounds n rs) k)
placed_later columns n j front [] e k h = absurd (omega arith)
placed_later columns n j front (r ∷ rs) e zero h =
    let low : Affine = record { coefs = unit j (columns - (j + 1)); constant = neg_ℤ r.0 } in
    let high : Affine = record { coefs = map neg_ℤ (unit j (columns - (j + 1))); constant = r.1 } in
    let rest = box_rows columns (suc j) rs in
    let z : j ≡ (j + zero) = omega arith in
    let a : row_at columns (front ++ low ∷ high ∷ rest) n ≡ low = ap (row_at columns (front ++ low ∷ high ∷ rest)) (sym e) ∙ get_or-append_seam front low (high ∷ rest) (zero_row columns) in
    let l1 = length-append front (low ∷ []) in
    let s : (n + 1) ≡ length (front ++ low ∷ []) = omega arith in
    let b : row_at columns (front ++ low ∷ high ∷ rest) (n + 1) ≡ high =
    ap (λ q. row_at columns q (n + 1)) (sym (append_assoc front (low ∷ []) (high ∷ rest)))
    ∙ ap (row_at columns ((front ++ low ∷ []) ++ high ∷ rest)) s ∙ get_or-append_seam (front ++ low ∷ []) high rest (zero_row columns) in
    let len = length-append front (low ∷ high ∷ rest) in
    subst (λ i. PlacedBound columns (front ++ low ∷ high ∷ rest) i (record { low = r.0; high = r.1; low_row = n; high_row = n + 1 })) z (record {
      low_there = omega arith;
      low_coefs = ap (λ (q : Affine). q.coefs) a;
      low_constant = ap (λ (q : Affine). q.constant) a;
      high_there = omega arith;
      high_coefs = ap (λ (q : Affine). q.coefs) b;
      high_constant = ap (λ (q : Affine). q.constant) b;
    })
placed_later columns n j front (r ∷ rs) e (suc k) h =
    let low : Affine = record { coefs = unit j (columns - (j + 1)); constant = neg_ℤ r.0 } in
    let high : Affine = record { coefs = map neg_ℤ (unit j (columns - (j + 1))); constant = r.1 } in
    let rest = box_rows columns (suc j) rs in
    let len = length-append front (low ∷ high ∷ []) in
    let p = placed_later columns (n + 2) (suc j) (front ++ low ∷ high ∷ []) rs (omega arith) k (omega arith) in
    let z : (suc j + k) ≡ (j + suc k) = omega arith in
    subst (λ i. PlacedBound columns (front ++ low ∷ high ∷ rest) i (bound_at (box_bounds (n + 2) rs) k)) z
    (subst (λ q. PlacedBound columns q (suc j + k) (bound_at (box_bounds (n + 2) rs) k)) (append_assoc front (low ∷ high ∷ []) rest) p)

pub len_rows : (columns j : ℕ) (rs : List (ℤ × ℤ)) → length (box_rows columns j rs) ≡ 2 * length rs
len_rows columns j [] = refl
len_rows columns j (r ∷ rs) = let h = len_rows columns (suc j) rs in omega arith

abs-neg : (c : ℤ) → unsigned_abs (neg_ℤ c) ≡ unsigned_abs c
abs-neg (pos zero) = refl
abs-neg (pos (suc n)) = refl
abs-neg (negsuc n) = refl

box_fit : (columns j : ℕ) (rs : List (ℤ × ℤ)) → j + length rs ≤ columns → All WithinReach rs → All (IsRow columns) (box_rows columns j rs)
box_fit columns j [] h a = All-nil (IsRow columns)
box_fit columns j (r ∷ rs) h a =
    let f = first_reach r rs a in
    let low : Affine = record { coefs = unit j (columns - (j + 1)); constant = neg_ℤ r.0 } in
    let high : Affine = record { coefs = map neg_ℤ (unit j (columns - (j + 1))); constant = r.1 } in
    let there : j < columns = omega arith in
    All-cons (IsRow columns) low (high ∷ box_rows columns (suc j) rs) (unit_row columns j (neg_ℤ r.0) there (subst (λ m. m ≤ 2 ^ 60) (sym (abs-neg r.0)) f.low))
    (All-cons (IsRow columns) high (box_rows columns (suc j) rs) (negated_row columns (record { coefs = unit j (columns - (j + 1)); constant = r.1 }) r.1 (unit_row columns j r.1 there f.high))
    (box_fit columns (suc j) rs (omega arith) (rest_reach r rs a)))

pub whole_placed : (system : Rows) (rs : List (ℤ × ℤ)) → length rs ≡ system.columns → All WithinReach rs → All (IsRow system.columns) system.rows
    → Placed system (with_box system rs).rows (length system.rows + 2 * system.columns) (box_bounds (length system.rows) rs)
whole_placed system rs w a fit =
    let len = length-append system.rows (box_rows system.columns 0 rs) in
    let more = len_rows system.columns 0 rs in
    record {
      count = omega arith;
      fit = All-append (IsRow system.columns) system.rows (box_rows system.columns 0 rs) fit (box_fit system.columns 0 rs (omega arith) a);
      longer = omega arith;
      own = λ i l. get_or_append_left system.rows (box_rows system.columns 0 rs) (zero_row system.columns) i l;
      bounded = λ j l. let e = bounds_width (length system.rows) rs in let z : (0 + j) ≡ j = omega arith in
          subst (λ i. PlacedBound system.columns (system.rows ++ box_rows system.columns 0 rs) i (bound_at (box_bounds (length system.rows) rs) j)) z
          (placed_later system.columns (length system.rows) 0 system.rows rs refl j (omega arith));
    }

-- the proof of the whole box
pub whole_valid : (system : Rows) (rs : List (ℤ × ℤ)) (bs : List Bound) (n : ℕ) (p : Proof) → length rs ≡ system.columns → All WithinReach rs → All (IsRow system.columns) system.rows
    → bs ≡ box_bounds (length system.rows) rs → n ≡ length system.rows + 2 * system.columns → IsEmpty system bs n p → ValidProof (with_box system rs) p
whole_valid system rs bs n p w h fit e k a =
    a.valid (with_box system rs).rows (subst (λ m. Placed system (with_box system rs).rows m bs) (sym k) (subst (λ b. Placed system (with_box system rs).rows (length system.rows + 2 * system.columns) b) (sym e) (whole_placed system rs w h fit)))
