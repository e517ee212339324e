-- Cuts of single rows: what they leave as it is, and how they stand in a proof.
use Rattle.std.proofs.Common.{◌≡◌, ℕ, zero, suc, ◌+◌, ◌^◌, ◌<◌, ◌≤◌, List, [], ◌∷◌, ◌++◌, length, map, slice_index_or, ℤ, pos, negsuc, ◌+ℤ◌, ◌*ℤ◌, ◌≤ℤ◌, ◌<ℤ◌, neg_ℤ, refl, sym, ap, subst, ◌∙◌, arith}
use Rattle.std.proofs.lemmas.Int.{ints, by_lt_z}
use Rattle.std.proofs.lemmas.List.{get_or_append_left, length-append}
use Rattle.std.proofs.lemmas.List.Elements.{All-nil, All-cons, All-push}
use Rattle.std.specs.List.{All}
use lib.IntN.{*ℤ-zero, *ℤ_comm}
use Rattle.affc_rows.specs.Forms.{Affine, dot}
use Rattle.affc_rows.proofs.IntLemmas.{mul-add, mul_assoc, one-mul, neg-mul}
use Rattle.affc_system.specs.Systems.{Rows, IsRow, IsPoint, Meets}
use Rattle.affc_farkas.specs.Multiples.{row_at, zero_row, multiple_sum, entry_of, AreMultipliers}
use Rattle.affc_farkas.specs.Proofs.{IsCut}
use Rattle.affc_farkas.specs.declared.proof.Proof.{Proof, Leaf, Cut', Split'}
use Rattle.affc_simplex.specs.declared.bounds.Bound.{Bound}
use Rattle.affc_leaf.specs.Bounds.{bound_at}
use Rattle.affc_leaf.specs.Parts.{Placed, IsLeast, IsEmpty}
use Rattle.affc_leaf.specs.Cuts.{IsDivided, IsCutOf, IsCutBefore}
use Rattle.affc_leaf.proofs.Greatest.{grows}
use Rattle.affc_leaf.proofs.Splits.{kept_row, new_row, longer, kept_bound}
use Rattle.affc_leaf.proofs.Sums.{sum_of_one}

-- the system with one more row
abbrev pub with_cut : Rows → Affine → Rows
with_cut system cut = record system { rows = system.rows ++ cut ∷ [] }

-- ---- a divided row holds where the row does

scaled_step : (w a b c d : ℤ) → w ≡ a +ℤ b → c ≡ a → d ≡ b → c +ℤ d ≡ w
scaled_step w a b c d e f g = omega (arith, ints)

dot-scaled : (g : ℤ) (qs xs : List ℤ) → dot (map (λ q. g *ℤ q) qs) xs ≡ g *ℤ dot qs xs
dot-scaled g [] xs = sym (*ℤ-zero g)
dot-scaled g (q ∷ qs) [] = sym (*ℤ-zero g)
dot-scaled g (q ∷ qs) (x ∷ xs) = scaled_step _ _ _ _ _ (mul-add g (q *ℤ x) (dot qs xs)) (mul_assoc g q x) (dot-scaled g qs xs)

below_one : (z : ℤ) → z <ℤ pos 0 → z ≤ℤ negsuc 0
below_one z h = omega (arith, ints)

minus_one : (n : ℕ) → pos n *ℤ negsuc 0 ≡ neg_ℤ (pos n)
minus_one n = *ℤ_comm (pos n) (negsuc 0) ∙ neg-mul (pos 1) (pos n) ∙ ap neg_ℤ (one-mul (pos n))

too_low : (g z gd gc gz k : ℤ) → gz ≡ gd +ℤ gc → gz ≤ℤ neg_ℤ g → pos 0 ≤ℤ (gd +ℤ k) → k <ℤ (gc +ℤ g) → ⊥
too_low g z gd gc gz k e l h m = omega (arith, ints)

floor_meets : (g d c k : ℤ) → pos 1 ≤ℤ g → pos 0 ≤ℤ ((g *ℤ d) +ℤ k) → k <ℤ ((g *ℤ c) +ℤ g) → pos 0 ≤ℤ (d +ℤ c)
floor_meets (negsuc n) d c k one h l = absurd (omega (arith, ints))
floor_meets (pos n) d c k one h l = by_lt_z (d +ℤ c) (pos 0)
    (λ below. absurd (too_low (pos n) (d +ℤ c) (pos n *ℤ d) (pos n *ℤ c) (pos n *ℤ (d +ℤ c)) k (mul-add (pos n) d c)
    (subst (λ y. (pos n *ℤ (d +ℤ c)) ≤ℤ y) (minus_one n) (grows n (d +ℤ c) (negsuc 0) (below_one _ below))) h l))
    (λ above. above)

pub divided_meets : (row : Affine) (g : ℤ) (cut : Affine) (x : List ℤ) → IsDivided row g cut → Meets x row → Meets x cut
divided_meets row g cut x d m =
    let e : dot row.coefs x ≡ g *ℤ dot cut.coefs x = ap (λ cs. dot cs x) (sym d.quotients) ∙ dot-scaled g cut.coefs x in
    floor_meets g (dot cut.coefs x) cut.constant row.constant d.divisor (subst (λ z. pos 0 ≤ℤ (z +ℤ row.constant)) e m) d.floor_high

cut_meets : (system : Rows) (i : ℕ) (g : ℤ) (cut : Affine) (x : List ℤ) → IsCutOf system i g cut → IsPoint system x → IsPoint (with_cut system cut) x
cut_meets system i g cut x d p = record {
  width = p.width;
  meets = All-push (Meets x) system.rows cut p.meets (divided_meets (row_at system.columns system.rows i) g cut x d.divided (p.meets i (zero_row system.columns) d.there));
}

pub fewer_meets : (system : Rows) (cut : Affine) (x : List ℤ) → IsPoint (with_cut system cut) x → IsPoint system x
fewer_meets system cut x p = record {
  width = p.width;
  meets = λ k d l. subst (λ (r : Affine). Meets x r) (get_or_append_left system.rows (cut ∷ []) d k l) (p.meets k d (let e = length-append system.rows (cut ∷ []) in omega arith));
}

-- ---- the least point is the same

pub cut_least : (system : Rows) (i : ℕ) (g : ℤ) (cut : Affine) (bs : List Bound) (x : List ℤ) → IsCutOf system i g cut → IsLeast (with_cut system cut) bs x → IsLeast system bs x
cut_least system i g cut bs x d a = record {
  inside = a.inside;
  meets = fewer_meets system cut x a.meets;
  least = λ z p q. a.least z p (cut_meets system i g cut z d q);
}

-- ---- the proof

entries : (g : ℤ) (qs : List ℤ) (k l : ℤ) (j : ℕ) → j < length qs
    → slice_index_or (map (λ q. g *ℤ q) qs ++ k ∷ []) j (pos 0) ≡ g *ℤ slice_index_or (qs ++ l ∷ []) j (pos 0)
entries g [] k l j h = absurd (omega arith)
entries g (q ∷ qs) k l zero h = refl
entries g (q ∷ qs) k l (suc j) h = entries g qs k l j (omega arith)

pub divided_entries : (row : Affine) (g : ℤ) (cut : Affine) (j : ℕ) → IsDivided row g cut → j < length cut.coefs → entry_of row j ≡ g *ℤ entry_of cut j
divided_entries row g cut j d h =
    ap (λ cs. slice_index_or (cs ++ row.constant ∷ []) j (pos 0)) (sym d.quotients) ∙ entries g cut.coefs row.constant cut.constant j h

one_multiplier : (i : ℕ) → AreMultipliers ((i, 1) ∷ [])
one_multiplier i = record {
  few = omega arith;
  positive = All-cons (λ p. 1 ≤ p.1) (i, 1) [] (omega arith) (All-nil (λ p. 1 ≤ p.1));
  small = All-cons (λ p. p.1 ≤ 2 ^ 53) (i, 1) [] (omega arith) (All-nil (λ p. p.1 ≤ 2 ^ 53));
  rising = (All-nil (λ q. i < q.0), tt);
}

is_cut : (system : Rows) (rows : List Affine) (next : ℕ) (bs : List Bound) (i : ℕ) (g : ℤ) (cut : Affine) → All (IsRow system.columns) system.rows
    → Placed system rows next bs → IsCutOf system i g cut → IsRow system.columns cut → IsCut system.columns rows ((i, 1) ∷ []) g cut
is_cut system rows next bs i g cut fit p d f =
    let columns = system.columns in
    let row = row_at columns system.rows i in
    let own : row_at columns rows i ≡ row = p.own i d.there in
    let width : length (row_at columns rows i).coefs ≡ columns = ap (λ (q : Affine). length q.coefs) own ∙ (fit i (zero_row columns) d.there).width in
    let e : multiple_sum columns rows ((i, 1) ∷ []) ≡ row = sum_of_one columns rows i width ∙ own in
    record {
      multipliers = one_multiplier i;
      there = All-cons (λ q. q.0 < length rows) (i, 1) [] (omega (arith, p.longer, d.there)) (All-nil (λ q. q.0 < length rows));
      divisor = d.divided.divisor;
      row_fits = f;
      quotients = λ j h. ap (λ q. entry_of q j) e ∙ divided_entries row g cut j d.divided (omega (arith, f.width));
      floor_low = subst (λ (q : Affine). (g *ℤ cut.constant) ≤ℤ q.constant) (sym e) d.divided.floor_low;
      floor_high = subst (λ (q : Affine). q.constant <ℤ ((g *ℤ cut.constant) +ℤ g)) (sym e) d.divided.floor_high;
    }

own_later : (system : Rows) (rows : List Affine) (next : ℕ) (bs : List Bound) (cut : Affine) → Placed system rows next bs → next ≡ length system.rows
    → (i : ℕ) → i < length (system.rows ++ cut ∷ []) → row_at system.columns (rows ++ cut ∷ []) i ≡ row_at system.columns (system.rows ++ cut ∷ []) i
own_later system rows next bs cut p n i h = by_lt_z (pos i) (pos (length system.rows))
    (λ m.
    let l : i < length system.rows = omega (arith, ints, m) in
    kept_row system.columns rows cut i (omega (arith, l, p.longer)) ∙ p.own i l ∙ sym (kept_row system.columns system.rows cut i l))
    (λ m.
    let g : length system.rows ≤ i = omega (arith, ints, m) in
    let e = longer system.rows cut in
    let here : i ≡ length system.rows = omega arith in
    new_row system.columns rows cut i (p.count ∙ n ∙ sym here) ∙ sym (new_row system.columns system.rows cut i (sym here)))

pub cut_placed : (system : Rows) (rows : List Affine) (next : ℕ) (bs : List Bound) (cut : Affine) → Placed system rows next bs → next ≡ length system.rows
    → IsRow system.columns cut → Placed (with_cut system cut) (rows ++ cut ∷ []) (next + 1) bs
cut_placed system rows next bs cut p n f = record {
  count = longer rows cut ∙ ap (λ n. n + 1) p.count;
  fit = All-push (IsRow system.columns) rows cut p.fit f;
  longer = let a = longer rows cut in let b = longer system.rows cut in omega (arith, p.longer);
  own = own_later system rows next bs cut p n;
  bounded = λ k l. kept_bound system.columns rows cut k (bound_at bs k) (p.bounded k l);
}

pub cut_empty : (system : Rows) (i : ℕ) (g : ℤ) (cut : Affine) (bs : List Bound) (next : ℕ) (rest q : Proof) → All (IsRow system.columns) system.rows
    → IsCutOf system i g cut → IsRow system.columns cut → next ≡ length system.rows
    → IsEmpty (with_cut system cut) bs (next + 1) rest → IsCutBefore ((i, 1) ∷ []) g cut rest q → IsEmpty system bs next q
cut_empty system i g cut bs next rest (Leaf by) fit d f n a b = absurd b
cut_empty system i g cut bs next rest (Split' form at p low u high) fit d f n a b = absurd b
cut_empty system i g cut bs next rest (Cut' by h row p after) fit d f n a b =
    let whole : Proof = Cut' ((i, 1) ∷ []) g cut p rest in
    let same : Cut' by h row p after ≡ whole =
    ap (λ m. Cut' m h row p after) b.0 ∙ ap (λ m. Cut' ((i, 1) ∷ []) m row p after) b.1 ∙ ap (λ m. Cut' ((i, 1) ∷ []) g m p after) b.2 ∙ ap (λ m. Cut' ((i, 1) ∷ []) g cut p m) b.3 in
    subst (λ w. IsEmpty system bs next w) (sym same) (record {
      none = λ x inside point. a.none x inside (cut_meets system i g cut x d point);
      valid = λ rows placed. (is_cut system rows next bs i g cut fit placed d f, a.valid (rows ++ cut ∷ []) (cut_placed system rows next bs cut placed n f));
      plain = a.plain;
    })
