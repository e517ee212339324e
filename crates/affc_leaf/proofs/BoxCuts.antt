-- Cuts of rows in a box, and leaves below them.
use Rattle.std.proofs.Common.{◌≡◌, ℕ, zero, suc, ◌+◌, ◌<◌, ◌≤◌, List, [], ◌∷◌, ◌++◌, length, drop, slice_index_or, map, ℤ, pos, negsuc, ◌+ℤ◌, ◌*ℤ◌, ◌≤ℤ◌, ◌<ℤ◌, neg_ℤ, refl, sym, ap, subst, ◌∙◌, arith, add-one, append-nil, append_assoc, Result, Ok, Err, Box, Global, Option, Some, None}
use Rattle.std.specs.Prelude.{IfOk, IfSome}
use Rattle.std.specs.declared.alloc.AllocError.{AllocError}
use Rattle.std.proofs.lemmas.Int.{ints}
use Rattle.std.proofs.lemmas.List.{get_or-append-add}
use Rattle.std.proofs.lemmas.List.Elements.{All-nil, All-cons, All-head, All-tail, All-push, All-append}
use Rattle.std.specs.List.{All}
use Rattle.affc_rows.specs.Forms.{Affine, dot, value, mixed, mixed_form}
use Rattle.affc_rows.proofs.IntLemmas.{one-mul, neg-mul}
use Rattle.affc_rows.proofs.ValueLemmas.{dot-mixed, value-mixed, length-mixed}
use Rattle.affc_system.specs.Systems.{Rows, IsRow, FitsRow, IsPoint, Meets}
use Rattle.affc_farkas.specs.Multiples.{row_at, zero_row, multiple_sum, entry_of, AreMultipliers}
use Rattle.affc_farkas.specs.Proofs.{IsCut, IsLeaf, IsValid}
use Rattle.affc_farkas.specs.declared.proof.Proof.{Proof, Leaf, Cut', Split'}
use Rattle.affc_farkas.proofs.Sound.{multiple_sum-width, multiple_sum-meets}
use Rattle.affc_simplex.specs.declared.bounds.Bound.{Bound}
use Rattle.affc_leaf.specs.Bounds.{bound_at, Inside, top, top_value}
use Rattle.affc_leaf.specs.Parts.{Placed, PlacedBound, IsEmpty}
use Rattle.affc_leaf.specs.Leaves.{corner_rows, SameSum, IsLeafBy}
use Rattle.affc_leaf.specs.Cuts.{IsDivided, IsCutBefore}
use Rattle.affc_leaf.specs.BoxCuts.{without, IsBoxCut, IsEmptyWith, IsProofBehind, behind, sum_with}
use Rattle.affc_leaf.proofs.BoxRows.{negated_once}
use Rattle.affc_leaf.proofs.Greatest.{value_top}
use Rattle.affc_leaf.proofs.Splits.{kept_row, longer, kept_bound}
use Rattle.affc_leaf.proofs.Sums.{sum_of_both, sum_shared}
use Rattle.affc_leaf.proofs.Corners.{corner_sum, leaf_valid}
use Rattle.affc_leaf.proofs.Divisions.{divided_meets, divided_entries}

-- ---- rows with further rows after them

placed_row : (system : Rows) (rows : List Affine) (next : ℕ) (bs : List Bound) (r : Affine) → Placed system rows next bs → IsRow system.columns r
    → Placed system (rows ++ r ∷ []) (next + 1) bs
placed_row system rows next bs r p f = record {
  count = longer rows r ∙ ap (λ n. n + 1) p.count;
  fit = All-push (IsRow system.columns) rows r p.fit f;
  longer = let e = longer rows r in omega (arith, p.longer);
  own = λ i l. kept_row system.columns rows r i (omega (arith, p.longer)) ∙ p.own i l;
  bounded = λ k l. kept_bound system.columns rows r k (bound_at bs k) (p.bounded k l);
}

-- the rows in which the bounds stand, with further rows after them
placed_rows : (system : Rows) (rows : List Affine) (next : ℕ) (bs : List Bound) (cuts : List Affine) → Placed system rows next bs → All (IsRow system.columns) cuts
    → Placed system (rows ++ cuts) (next + length cuts) bs
placed_rows system rows next bs [] p f =
    let z : next ≡ next + 0 = omega arith in
    subst (λ l. Placed system l (next + 0) bs) (sym (append-nil rows)) (subst (λ n. Placed system rows n bs) z p)
placed_rows system rows next bs (c ∷ cs) p f =
    let z : (next + 1) + length cs ≡ next + suc (length cs) = omega arith in
    subst (λ l. Placed system l (next + suc (length cs)) bs) (append_assoc rows (c ∷ []) cs)
    (subst (λ n. Placed system ((rows ++ c ∷ []) ++ cs) n bs) z
    (placed_rows system (rows ++ c ∷ []) (next + 1) bs cs (placed_row system rows next bs c p (All-head (IsRow system.columns) c cs f)) (All-tail (IsRow system.columns) c cs f)))

-- ---- a cut in a box

len-neg : (cs : List ℤ) → length (map neg_ℤ cs) ≡ length cs
len-neg [] = refl
len-neg (c ∷ cs) = ap suc (len-neg cs)

negated_dot : (m d : ℤ) → m ≡ (negsuc 0 *ℤ d) +ℤ (pos 0 *ℤ d) → m ≡ neg_ℤ d
negated_dot m d e = let a = neg-mul (pos 1) d in let b = one-mul d in omega (arith, ints)

pub dot-neg : (cs xs : List ℤ) → length cs ≡ length xs → dot (map neg_ℤ cs) xs ≡ neg_ℤ (dot cs xs)
dot-neg cs xs h = negated_dot (dot (map neg_ℤ cs) xs) (dot cs xs) (ap (λ l. dot l xs) (sym (negated_once cs)) ∙ dot-mixed (negsuc 0) cs (pos 0) cs xs refl h)

rest_least : (n d t : ℤ) → n ≡ neg_ℤ d → (d +ℤ pos 0) ≤ℤ (t +ℤ pos 0) → pos 0 ≤ℤ (n +ℤ t)
rest_least n d t e h = omega (arith, ints)

both_least : (v a b : ℤ) → v ≡ (pos 1 *ℤ a) +ℤ (pos 1 *ℤ b) → pos 0 ≤ℤ a → pos 0 ≤ℤ b → pos 0 ≤ℤ v
both_least v a b e h k = let p = one-mul a in let q = one-mul b in omega (arith, ints)

without_meets : (row : Affine) (part : List ℤ) (bs : List Bound) (x : List ℤ) → length row.coefs ≡ length part → length part ≡ length bs → length part ≡ length x
    → Inside bs x → Meets x row → Meets x (without row part bs)
without_meets row part bs x w h k inside m =
    let rest : Affine = record { coefs = map neg_ℤ part; constant = top part bs } in
    let whole : Affine = record { coefs = part; constant = pos 0 } in
    let r : pos 0 ≤ℤ value rest x = rest_least _ _ (top part bs) (dot-neg part x k) (value_top whole bs x h inside) in
    both_least _ (value row x) (value rest x) (value-mixed (pos 1) row (pos 1) rest x (w ∙ sym (len-neg part)) (w ∙ k)) m r

box-width : (xs : List ℤ) (bs : List Bound) → Inside bs xs → length xs ≡ length bs
box-width [] [] h = refl
box-width [] (b ∷ bs) h = absurd h
box-width (x ∷ xs) [] h = absurd h
box-width (x ∷ xs) (b ∷ bs) h = ap suc (box-width xs bs h.2)

form_is : (f g : Affine) → f.coefs ≡ g.coefs → f.constant ≡ g.constant → f ≡ g
form_is f g e k = ap (λ c. record f { coefs = c }) e ∙ ap (λ z. record g { constant = z }) k

-- the rows that are cut: they are there, and the part's columns are those of the box
pub record IsSource (system : Rows) (bs : List Bound) (own : List (ℕ × ℕ)) (part : List ℤ) : Type 0 where
  pub width : length bs ≡ system.columns
  pub fit : All (IsRow system.columns) system.rows
  pub there : All (λ p. p.0 < length system.rows) own
  pub part_width : length part ≡ length bs

len-scaled : (g : ℤ) (qs : List ℤ) → length (map (λ q. g *ℤ q) qs) ≡ length qs
len-scaled g [] = refl
len-scaled g (q ∷ qs) = ap suc (len-scaled g qs)

without-width : (row : Affine) (part : List ℤ) (bs : List Bound) → length row.coefs ≡ length part → length (without row part bs).coefs ≡ length part
without-width row part bs h = length-mixed (pos 1) row.coefs (pos 1) (map neg_ℤ part) (h ∙ sym (len-neg part)) ∙ h

later_there : (m n : ℕ) (by : List (ℕ × ℕ)) → m ≤ n → All (λ p. p.0 < m) by → All (λ p. p.0 < n) by
later_there m n by h a = λ k d l. let b = a k d l in omega arith

cut_below : (system : Rows) (bs : List Bound) (own m : List (ℕ × ℕ)) (part : List ℤ) (g : ℤ) (cut : Affine) → IsSource system bs own part → AreMultipliers m
    → SameSum m (own ++ corner_rows part bs) → IsDivided (without (multiple_sum system.columns system.rows own) part bs) g cut → IsRow system.columns cut
    → (next : ℕ) (rows : List Affine) → Placed system rows next bs → IsCut system.columns rows m g cut
cut_below system bs own m part g cut s good same d fit next rows p =
    let columns = system.columns in
    let sum = multiple_sum columns system.rows own in
    let corner = corner_rows part bs in
    let rest = multiple_sum columns rows corner in
    let pw : (0 + length part) ≡ columns = let a = s.part_width in let b = s.width in omega arith in
    let r = corner_sum columns rows 0 part bs pw s.part_width (λ k h. let z : k ≡ (0 + k) = omega arith in subst (λ n. PlacedBound columns rows n (bound_at bs k)) z (p.bounded k h)) in
    let all : All (λ q. q.0 < length rows) (own ++ corner) = All-append (λ q. q.0 < length rows) own corner (later_there (length system.rows) (length rows) own p.longer s.there) r.there in
    let rest_width : length rest.coefs ≡ columns = multiple_sum-width columns rows corner p.fit r.there in
    let rest_is : rest ≡ record { coefs = map neg_ℤ part; constant = top part bs } = form_is rest (record { coefs = map neg_ℤ part; constant = top part bs }) r.coefs r.constant in
    let e : multiple_sum columns rows m ≡ without sum part bs =
    same.sums columns rows ∙ sum_of_both columns rows own corner rest_width ∙ ap (λ f. mixed_form (pos 1) f (pos 1) rest) (sum_shared columns system.rows rows (length system.rows) own p.own s.there)
    ∙ ap (mixed_form (pos 1) sum (pos 1)) rest_is in
    record {
      multipliers = good;
      there = same.back (length rows) all;
      divisor = d.divisor;
      row_fits = fit;
      quotients = λ j h. ap (λ q. entry_of q j) e ∙ divided_entries (without sum part bs) g cut j d (omega (arith, fit.width));
      floor_low = subst (λ (q : Affine). (g *ℤ cut.constant) ≤ℤ q.constant) (sym e) d.floor_low;
      floor_high = subst (λ (q : Affine). q.constant <ℤ ((g *ℤ cut.constant) +ℤ g)) (sym e) d.floor_high;
    }

pub box_cut : (system : Rows) (bs : List Bound) (own m : List (ℕ × ℕ)) (part : List ℤ) (g : ℤ) (cut : Affine) → IsSource system bs own part → AreMultipliers m
    → SameSum m (own ++ corner_rows part bs) → IsDivided (without (multiple_sum system.columns system.rows own) part bs) g cut → FitsRow cut
    → IsBoxCut system bs m g cut
box_cut system bs own m part g cut s good same d f =
    let columns = system.columns in
    let sum = multiple_sum columns system.rows own in
    let sw : length sum.coefs ≡ columns = multiple_sum-width columns system.rows own s.fit s.there in
    let sp : length sum.coefs ≡ length part = sw ∙ sym s.width ∙ sym s.part_width in
    let cw : length cut.coefs ≡ columns = sym (len-scaled g cut.coefs) ∙ ap length d.quotients ∙ without-width sum part bs sp ∙ s.part_width ∙ s.width in
    let fit : IsRow columns cut = record { width = cw; fits = f } in
    record {
      fit = fit;
      meets = λ x inside point. divided_meets (without sum part bs) g cut x d
          (without_meets sum part bs x sp s.part_width (s.part_width ∙ sym (box-width x bs inside)) inside (multiple_sum-meets columns system.rows x own point.width s.fit point.meets s.there));
      cuts = cut_below system bs own m part g cut s good same d fit;
    }

-- ---- a part taken out of a sum in place

taken : (p c : ℤ) → (negsuc 0 *ℤ p) +ℤ (pos 1 *ℤ c) ≡ (pos 1 *ℤ c) +ℤ (pos 1 *ℤ neg_ℤ p)
taken p c = let a = neg-mul (pos 1) p in let b = one-mul p in let d = one-mul (neg_ℤ p) in omega (arith, ints)

mixed-taken : (part cs : List ℤ) → length part ≡ length cs → mixed (negsuc 0) part (pos 1) cs ≡ mixed (pos 1) cs (pos 1) (map neg_ℤ part)
mixed-taken [] [] h = refl
mixed-taken [] (c ∷ cs) h = absurd (omega arith)
mixed-taken (p ∷ ps) [] h = absurd (omega arith)
mixed-taken (p ∷ ps) (c ∷ cs) h =
    ap (λ z. z ∷ mixed (negsuc 0) ps (pos 1) cs) (taken p c) ∙ ap (λ l. ((pos 1 *ℤ c) +ℤ (pos 1 *ℤ neg_ℤ p)) ∷ l) (mixed-taken ps cs (omega arith))

constant_taken : (k c t : ℤ) → k ≡ c +ℤ t → k ≡ (pos 1 *ℤ c) +ℤ (pos 1 *ℤ t)
constant_taken k c t e = let a = one-mul c in let b = one-mul t in omega (arith, ints)

pub without_is : (cs part new : List ℤ) (k c : ℤ) (bs : List Bound) → length part ≡ length cs → new ≡ mixed (negsuc 0) part (pos 1) cs → k ≡ c +ℤ top part bs
    → record { coefs = new; constant = k } ≡ without (record { coefs = cs; constant = c }) part bs
without_is cs part new k c bs h e f =
    form_is (record { coefs = new; constant = k }) (without (record { coefs = cs; constant = c }) part bs) (e ∙ mixed-taken part cs h) (constant_taken k c (top part bs) f)

-- ---- a leaf of the system's rows and of further rows

behind_sum : (columns : ℕ) (rows cuts : List Affine) (n : ℕ) (over : List (ℕ × ℕ)) → length rows ≡ n → multiple_sum columns (rows ++ cuts) (behind n over) ≡ multiple_sum columns cuts over
behind_sum columns rows cuts n [] h = refl
behind_sum columns rows cuts n (p ∷ ps) h =
    let e : row_at columns (rows ++ cuts) (n + p.0) ≡ row_at columns cuts p.0 = ap (λ k. row_at columns (rows ++ cuts) (k + p.0)) (sym h) ∙ get_or-append-add rows cuts p.0 (zero_row columns) in
    ap (λ r. mixed_form (pos p.1) r (pos 1) (multiple_sum columns (rows ++ cuts) (behind n ps))) e
    ∙ ap (mixed_form (pos p.1) (row_at columns cuts p.0) (pos 1)) (behind_sum columns rows cuts n ps h)

behind_there : (n m : ℕ) (over : List (ℕ × ℕ)) → All (λ p. p.0 < m) over → All (λ p. p.0 < n + m) (behind n over)
behind_there n m [] h = All-nil (λ p. p.0 < n + m)
behind_there n m (p ∷ ps) h =
    let a : p.0 < m = All-head (λ q. q.0 < m) p ps h in
    All-cons (λ q. q.0 < n + m) (n + p.0, p.1) (behind n ps) (omega arith) (behind_there n m ps (All-tail (λ q. q.0 < m) p ps h))

behind-drop' : (n i : ℕ) (over : List (ℕ × ℕ)) (p : ℕ × ℕ) (pairs : List (ℕ × ℕ)) → i < length over → p ≡ slice_index_or over i p
    → (pairs ++ (n + p.0, p.1) ∷ []) ++ behind n (drop (suc i) over) ≡ pairs ++ behind n (drop i over)
behind-drop' n i [] p pairs h e = absurd (omega arith)
behind-drop' n zero (o ∷ os) p pairs h e = append_assoc pairs ((n + p.0, p.1) ∷ []) (behind n os) ∙ ap (λ (q : ℕ × ℕ). pairs ++ (n + q.0, q.1) ∷ behind n os) e
behind-drop' n (suc i) (o ∷ os) p pairs h e = behind-drop' n i os p pairs (omega arith) e

-- one pair more behind the others
pub behind_step : (n i : ℕ) (over : List (ℕ × ℕ)) (p : ℕ × ℕ) (pairs : List (ℕ × ℕ)) → i < length over → p ≡ slice_index_or over i p
    → (pairs ++ (n + p.0, p.1) ∷ []) ++ behind n (drop (i + 1) over) ≡ pairs ++ behind n (drop i over)
behind_step n i over p pairs h e = simp add-one (behind-drop' n i over p pairs h e)

-- the rows of both lists are there, and their sum is below 0 in the whole box
pub record IsBelowWith (system : Rows) (bs : List Bound) (cuts : List Affine) (own over : List (ℕ × ℕ)) : Type 0 where
  pub width : length bs ≡ system.columns
  pub fit : All (IsRow system.columns) system.rows
  pub cuts_fit : All (IsRow system.columns) cuts
  pub there : All (λ p. p.0 < length system.rows) own
  pub over_there : All (λ p. p.0 < length cuts) over
  pub below : top_value (sum_with system cuts own over) bs <ℤ pos 0

-- the multipliers are these rows and the corner of their sum
abbrev pub AreOfWith : Rows → List Bound → ℕ → List Affine → List (ℕ × ℕ) → List (ℕ × ℕ) → List (ℕ × ℕ) → Type 0
AreOfWith system bs next cuts own over m = SameSum m ((own ++ behind next over) ++ corner_rows (sum_with system cuts own over).coefs bs) × AreMultipliers m

below_all : (v t : ℤ) → v ≤ℤ t → t <ℤ pos 0 → pos 0 ≤ℤ v → ⊥
below_all v t a b c = omega (arith, ints)

with_none : (system : Rows) (bs : List Bound) (cuts : List Affine) (own over : List (ℕ × ℕ)) → IsBelowWith system bs cuts own over
    → (x : List ℤ) → Inside bs x → IsPoint system x → All (Meets x) cuts → ⊥
with_none system bs cuts own over b x inside point more =
    let columns = system.columns in
    let first = multiple_sum columns system.rows own in
    let second = multiple_sum columns cuts over in
    let w = multiple_sum-width columns system.rows own b.fit b.there in
    let v = multiple_sum-width columns cuts over b.cuts_fit b.over_there in
    let whole : length (sum_with system cuts own over).coefs ≡ length bs = length-mixed (pos 1) first.coefs (pos 1) second.coefs (w ∙ sym v) ∙ w ∙ sym b.width in
    below_all _ _ (value_top (sum_with system cuts own over) bs x whole inside) b.below
    (both_least _ (value first x) (value second x) (value-mixed (pos 1) first (pos 1) second x (w ∙ sym v) (w ∙ sym point.width))
    (multiple_sum-meets columns system.rows x own point.width b.fit point.meets b.there)
    (multiple_sum-meets columns cuts x over point.width b.cuts_fit more b.over_there))

with_valid : (system : Rows) (bs : List Bound) (next : ℕ) (cuts : List Affine) (own over m : List (ℕ × ℕ)) → IsBelowWith system bs cuts own over → AreOfWith system bs next cuts own over m
    → (rows : List Affine) → Placed system rows next bs → IsLeaf system.columns (rows ++ cuts) m
with_valid system bs next cuts own over m b s rows p =
    let columns = system.columns in
    let all = rows ++ cuts in
    let q = placed_rows system rows next bs cuts p b.cuts_fit in
    let whole : Rows = record { columns = columns; rows = all } in
    let placed : Placed whole all (next + length cuts) bs = record {
      count = q.count;
      fit = q.fit;
      longer = omega arith;
      own = λ i l. refl;
      bounded = q.bounded;
    } in
    let by = own ++ behind next over in
    let over_all : All (λ k. k.0 < length all) (behind next over) = subst (λ n. All (λ k. k.0 < n) (behind next over)) (sym q.count) (behind_there next (length cuts) over b.over_there) in
    let there : All (λ k. k.0 < length all) by = All-append (λ k. k.0 < length all) own (behind next over) (later_there (length system.rows) (length all) own q.longer b.there) over_all in
    let w : length (multiple_sum columns all (behind next over)).coefs ≡ columns = multiple_sum-width columns all (behind next over) q.fit over_all in
    let e : multiple_sum columns all by ≡ sum_with system cuts own over =
    sum_of_both columns all own (behind next over) w
    ∙ ap (λ f. mixed_form (pos 1) f (pos 1) (multiple_sum columns all (behind next over))) (sum_shared columns system.rows all (length system.rows) own q.own b.there)
    ∙ ap (mixed_form (pos 1) (multiple_sum columns system.rows own) (pos 1)) (behind_sum columns rows cuts next over p.count) in
    leaf_valid whole all (next + length cuts) bs by m placed b.width q.fit there (subst (λ f. top_value f bs <ℤ pos 0) (sym e) b.below) s.1
    (subst (λ (f : Affine). SameSum m (by ++ corner_rows f.coefs bs)) (sym e) s.0)

pub leaf_empty_with : (system : Rows) (bs : List Bound) (next : ℕ) (cuts : List Affine) (own over : List (ℕ × ℕ)) (p : Proof) → IsBelowWith system bs cuts own over
    → IsLeafBy (AreOfWith system bs next cuts own over) p → IsEmptyWith system bs next cuts p
leaf_empty_with system bs next cuts own over (Leaf m) b s = record {
  none = with_none system bs cuts own over b;
  valid = with_valid system bs next cuts own over m b s;
  plain = tt;
}
leaf_empty_with system bs next cuts own over (Cut' m g row p rest) b s = absurd s
leaf_empty_with system bs next cuts own over (Split' form at p low q high) b s = absurd s

pub leaf_answer_with : (system : Rows) (bs : List Bound) (next : ℕ) (cuts : List Affine) (own over : List (ℕ × ℕ)) (r : Result (Option (Box Proof Global)) AllocError)
    → IsBelowWith system bs cuts own over → IfOk r (λ o. IfSome o (λ p. IsLeafBy (AreOfWith system bs next cuts own over) p.value)) → IfOk r (λ o. IfSome o (λ p. IsEmptyWith system bs next cuts p.value))
leaf_answer_with system bs next cuts own over (Err e) b s = tt
leaf_answer_with system bs next cuts own over (Ok None) b s = tt
leaf_answer_with system bs next cuts own over (Ok (Some p)) b s = leaf_empty_with system bs next cuts own over p.value b s

-- ---- one cut less

cut_empty_with : (system : Rows) (bs : List Bound) (next : ℕ) (cuts : List Affine) (by : List (ℕ × ℕ)) (g : ℤ) (cut : Affine) (rest q : Proof) → IsBoxCut system bs by g cut
    → All (IsRow system.columns) cuts → IsEmptyWith system bs next (cuts ++ cut ∷ []) rest → IsCutBefore by g cut rest q → IsEmptyWith system bs next cuts q
cut_empty_with system bs next cuts by g cut rest (Leaf m) c f a b = absurd b
cut_empty_with system bs next cuts by g cut rest (Split' form at p low u high) c f a b = absurd b
cut_empty_with system bs next cuts by g cut rest (Cut' m h row p after) c f a b =
    let whole : Proof = Cut' by g cut p rest in
    let same : Cut' m h row p after ≡ whole =
    ap (λ m. Cut' m h row p after) b.0 ∙ ap (λ m. Cut' by m row p after) b.1 ∙ ap (λ m. Cut' by g m p after) b.2 ∙ ap (λ m. Cut' by g cut p m) b.3 in
    subst (λ w. IsEmptyWith system bs next cuts w) (sym same) (record {
      none = λ x inside point more. a.none x inside point (All-push (Meets x) cuts cut more (c.meets x inside point));
      valid = λ rows placed. (
        c.cuts (next + length cuts) (rows ++ cuts) (placed_rows system rows next bs cuts placed f),
        subst (λ l. IsValid system.columns rest l) (sym (append_assoc rows cuts (cut ∷ []))) (a.valid rows placed),
      );
      plain = a.plain;
    })

pub empty_behind : (system : Rows) (bs : List Bound) (next : ℕ) (cuts : List Affine) (by : List (ℕ × ℕ)) (g : ℤ) (cut : Affine) (rest : Option (Box Proof Global))
    (r : Result (Option (Box Proof Global)) AllocError) → IsBoxCut system bs by g cut → All (IsRow system.columns) cuts
    → IfSome rest (λ p. IsEmptyWith system bs next (cuts ++ cut ∷ []) p.value) → IfOk r (IsProofBehind by g cut rest) → IfOk r (λ o. IfSome o (λ p. IsEmptyWith system bs next cuts p.value))
empty_behind system bs next cuts by g cut rest (Err e) c f a b = tt
empty_behind system bs next cuts by g cut None (Ok whole) c f a b = subst (λ o. IfSome o (λ p. IsEmptyWith system bs next cuts p.value)) (sym b) tt
empty_behind system bs next cuts by g cut (Some rest) (Ok None) c f a b = absurd b
empty_behind system bs next cuts by g cut (Some rest) (Ok (Some q)) c f a b = cut_empty_with system bs next cuts by g cut rest.value q.value c f a b

pub empty_alone : (system : Rows) (bs : List Bound) (next : ℕ) (p : Proof) → IsEmptyWith system bs next [] p → IsEmpty system bs next p
empty_alone system bs next p a = record {
  none = λ x inside point. a.none x inside point (All-nil (Meets x));
  valid = λ rows placed. subst (λ l. IsValid system.columns p l) (append-nil rows) (a.valid rows placed);
  plain = a.plain;
}
