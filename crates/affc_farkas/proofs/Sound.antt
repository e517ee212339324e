-- A system with a valid proof has no integer point.
use Rattle.std.proofs.Common.{◌≡◌, ℕ, zero, suc, ◌+◌, ◌*◌, ◌<◌, List, [], ◌∷◌, ◌++◌, length, map, replicate, slice_index_or, ℤ, pos, negsuc, ◌+ℤ◌, ◌-ℤ◌, ◌*ℤ◌, neg_ℤ, ◌≤ℤ◌, ◌<ℤ◌, refl, sym, ap, subst, ◌∙◌, arith}
use Rattle.std.proofs.lemmas.Int.{ints, by_lt_z}
use Rattle.std.proofs.lemmas.List.Elements.{All-push, All-head, All-tail}
use Rattle.std.specs.List.{All}
use borrow.Author.Differences.{up, down, product_is}
use Rattle.affc_rows.specs.Forms.{Affine, value, dot}
use Rattle.affc_rows.proofs.IntLemmas.{mul-add, mul_assoc, mul-nonneg, one-mul, neg-mul}
use lib.IntN.{*ℤ-zero, zero-*ℤ}
use Rattle.affc_rows.proofs.ValueLemmas.{value-mixed, length-mixed}
use Rattle.affc_system.specs.Systems.{Rows, IsRow, Meets, HasNoPoint}
use Rattle.affc_farkas.specs.Multiples.{zero_row, row_at, multiple_sum, entry_of}
use Rattle.affc_farkas.specs.Proofs.{low_row, high_row, IsValid, ValidProof}
use Rattle.affc_farkas.specs.declared.proof.Proof.{Proof, Leaf, Cut', Split'}

both : (w a b r : ℤ) → w ≡ a +ℤ b → pos 0 ≤ℤ a → b ≡ r → pos 0 ≤ℤ r → pos 0 ≤ℤ w
both w a b r e m o h = omega (arith, ints)

cut_absurd : (n m : ℕ) (w gd gc k g : ℤ) → w ≡ gd +ℤ gc → up w ≡ n * 0 + 0 * suc m → down w ≡ n * suc m + 0 * 0 → g ≡ pos n → pos 1 ≤ℤ g → pos 0 ≤ℤ (gd +ℤ k) → k <ℤ (gc +ℤ g) → ⊥
cut_absurd n m w gd gc k g e u d i one h l = omega (arith, ints)

zero_product : (g : ℤ) → pos 0 ≡ g *ℤ pos 0
zero_product g = sym (*ℤ-zero g)

sum_zero : (a b : ℤ) → a ≡ pos 0 → b ≡ pos 0 → a +ℤ b ≡ pos 0
sum_zero a b e f = omega (arith, ints)

leaf_absurd : (d k : ℤ) → d ≡ pos 0 → pos 0 ≤ℤ (d +ℤ k) → k <ℤ pos 0 → ⊥
leaf_absurd d k e h n = omega (arith, ints)

high_meets : (d c at : ℤ) → at <ℤ (d +ℤ c) → pos 0 ≤ℤ (d +ℤ ((c -ℤ at) -ℤ pos 1))
high_meets d c at h = omega (arith, ints)

low_meets : (n d c at : ℤ) → n ≡ neg_ℤ d → (d +ℤ c) ≤ℤ at → pos 0 ≤ℤ (n +ℤ (at -ℤ c))
low_meets n d c at e h = omega (arith, ints)

len_replicate : (n : ℕ) → length (replicate n (pos 0)) ≡ n
len_replicate zero = refl
len_replicate (suc n) = ap suc (len_replicate n)

pub dot-zeros : (n : ℕ) (xs : List ℤ) → dot (replicate n (pos 0)) xs ≡ pos 0
dot-zeros zero xs = refl
dot-zeros (suc n) [] = refl
dot-zeros (suc n) (x ∷ xs) = let e = dot-zeros n xs in omega (arith, ints)

-- the sum has one coefficient for each column
pub multiple_sum-width : (columns : ℕ) (rows : List Affine) (by : List (ℕ × ℕ)) → All (IsRow columns) rows → All (λ p. p.0 < length rows) by
    → length (multiple_sum columns rows by).coefs ≡ columns
multiple_sum-width columns rows [] fit there = len_replicate columns
multiple_sum-width columns rows (p ∷ ps) fit there =
    let here = All-head (λ q. q.0 < length rows) p ps there in
    let rest = multiple_sum-width columns rows ps fit (All-tail (λ q. q.0 < length rows) p ps there) in
    let w = (fit p.0 (zero_row columns) here).width in
    length-mixed (pos p.1) (row_at columns rows p.0).coefs (pos 1) (multiple_sum columns rows ps).coefs (w ∙ sym rest) ∙ w

-- the sum of multiples of rows that are at least 0 is at least 0
pub multiple_sum-meets : (columns : ℕ) (rows : List Affine) (x : List ℤ) (by : List (ℕ × ℕ)) → length x ≡ columns → All (IsRow columns) rows → All (Meets x) rows → All (λ p. p.0 < length rows) by
    → pos 0 ≤ℤ value (multiple_sum columns rows by) x
multiple_sum-meets columns rows x [] l fit meets there = let e = dot-zeros columns x in omega (arith, ints)
multiple_sum-meets columns rows x (p ∷ ps) l fit meets there =
    let here = All-head (λ q. q.0 < length rows) p ps there in
    let there' = All-tail (λ q. q.0 < length rows) p ps there in
    let rest = multiple_sum-meets columns rows x ps l fit meets there' in
    let w = (fit p.0 (zero_row columns) here).width in
    let u = multiple_sum-width columns rows ps fit there' in
    let v = value-mixed (pos p.1) (row_at columns rows p.0) (pos 1) (multiple_sum columns rows ps) x (w ∙ sym u) (w ∙ sym l) in
    let m = mul-nonneg p.1 (value (row_at columns rows p.0) x) (meets p.0 (zero_row columns) here) in
    let o = one-mul (value (multiple_sum columns rows ps) x) in
    both _ _ _ _ v m o rest

cancelled : (cs : List ℤ) (k : ℤ) (xs : List ℤ) → ((j : ℕ) → j < length cs → slice_index_or (cs ++ k ∷ []) j (pos 0) ≡ pos 0) → dot cs xs ≡ pos 0
cancelled [] k xs h = refl
cancelled (c ∷ cs) k [] h = refl
cancelled (c ∷ cs) k (x ∷ xs) h =
    let e = ap (λ z. z *ℤ x) (h 0 (omega arith)) ∙ zero-*ℤ x in
    let r = cancelled cs k xs (λ j lt. h (suc j) (omega arith)) in
    sum_zero _ _ e r

pub dot-cancelled : (f : Affine) (xs : List ℤ) → ((j : ℕ) → j < length f.coefs → entry_of f j ≡ pos 0) → dot f.coefs xs ≡ pos 0
dot-cancelled f xs h = cancelled f.coefs f.constant xs h

quotients : (g : ℤ) (cs : List ℤ) (k : ℤ) (ds : List ℤ) (l : ℤ) (xs : List ℤ) → length cs ≡ length ds → length ds ≡ length xs
    → ((j : ℕ) → j < length ds → slice_index_or (cs ++ k ∷ []) j (pos 0) ≡ g *ℤ slice_index_or (ds ++ l ∷ []) j (pos 0)) → dot cs xs ≡ g *ℤ dot ds xs
quotients g [] k [] l xs p q h = zero_product g
quotients g [] k (d ∷ ds) l xs p q h = absurd (omega arith)
quotients g (c ∷ cs) k [] l xs p q h = absurd (omega arith)
quotients g (c ∷ cs) k (d ∷ ds) l [] p q h = absurd (omega arith)
quotients g (c ∷ cs) k (d ∷ ds) l (x ∷ xs) p q h =
    let e = ap (λ z. z *ℤ x) (h 0 (omega arith)) ∙ mul_assoc g d x in
    let r = quotients g cs k ds l xs (omega arith) (omega arith) (λ j lt. h (suc j) (omega arith)) in
    ap (λ z. z +ℤ dot cs xs) e ∙ ap (λ z. (g *ℤ (d *ℤ x)) +ℤ z) r ∙ sym (mul-add g (d *ℤ x) (dot ds xs))

dot-quotients : (g : ℤ) (f row : Affine) (xs : List ℤ) → length f.coefs ≡ length row.coefs → length row.coefs ≡ length xs
    → ((j : ℕ) → j < length row.coefs → entry_of f j ≡ g *ℤ entry_of row j) → dot f.coefs xs ≡ g *ℤ dot row.coefs xs
dot-quotients g f row xs p q h = quotients g f.coefs f.constant row.coefs row.constant xs p q h

negated_step : (w u p q : ℤ) → w ≡ neg_ℤ p → u ≡ neg_ℤ q → w +ℤ u ≡ neg_ℤ (p +ℤ q)
negated_step w u p q e f = omega (arith, ints)

dot-negated : (cs xs : List ℤ) → length cs ≡ length xs → dot (map neg_ℤ cs) xs ≡ neg_ℤ (dot cs xs)
dot-negated [] xs h = refl
dot-negated (c ∷ cs) [] h = absurd (omega arith)
dot-negated (c ∷ cs) (x ∷ xs) h = let e = dot-negated cs xs (omega arith) in let f = neg-mul c x in negated_step _ _ _ _ f e

-- a row divided by g, rounded down, still holds at whole numbers
cut_at : (g z d c k : ℤ) → z ≡ d +ℤ c → pos 1 ≤ℤ g → pos 0 ≤ℤ ((g *ℤ d) +ℤ k) → k <ℤ ((g *ℤ c) +ℤ g) → pos 0 ≤ℤ z
cut_at (negsuc n) z d c k e one h l = absurd (omega (arith, ints))
cut_at (pos n) (pos m) d c k e one h l = omega (arith, ints)
cut_at (pos n) (negsuc m) d c k e one h l =
    let s = mul-add (pos n) d c in
    let t = ap (λ y. pos n *ℤ y) e in
    let q = product_is (pos n) (negsuc m) in
    absurd (cut_absurd n m (pos n *ℤ negsuc m) (pos n *ℤ d) (pos n *ℤ c) k (pos n) (t ∙ s) q.0 q.1 refl one h l)

pub sound : (p : Proof) (columns : ℕ) (rows : List Affine) (x : List ℤ) → length x ≡ columns → All (IsRow columns) rows → All (Meets x) rows → IsValid columns p rows → ⊥
sound (Leaf by) columns rows x l fit meets v =
    let h = multiple_sum-meets columns rows x by l fit meets v.there in
    let w = multiple_sum-width columns rows by fit v.there in
    let e = dot-cancelled (multiple_sum columns rows by) x (λ j k. v.cancels j (omega arith)) in
    leaf_absurd _ _ e h v.negative
sound (Cut' by g row p rest) columns rows x l fit meets v =
    let c = v.0 in
    let h = multiple_sum-meets columns rows x by l fit meets c.there in
    let w = c.row_fits.width ∙ sym l in
    let u = multiple_sum-width columns rows by fit c.there in
    let e = dot-quotients g (multiple_sum columns rows by) row x (u ∙ sym c.row_fits.width) w (λ j k. c.quotients j (omega (arith, c.row_fits.width))) in
    let h' = subst (λ z. pos 0 ≤ℤ (z +ℤ (multiple_sum columns rows by).constant)) e h in
    let m = cut_at g _ (dot row.coefs x) row.constant _ refl c.divisor h' c.floor_high in
    sound rest columns (rows ++ row ∷ []) x l (All-push (IsRow columns) rows row fit c.row_fits) (All-push (Meets x) rows row meets m) v.1
sound (Split' form at p low q high) columns rows x l fit meets v =
    let w : length form.coefs ≡ length x = v.1.width ∙ sym l in
    by_lt_z at (value form x)
    (λ above. sound high columns (rows ++ high_row form at ∷ []) x l (All-push (IsRow columns) rows (high_row form at) fit v.1)
    (All-push (Meets x) rows (high_row form at) meets (high_meets _ _ _ above)) v.3)
    (λ below. sound low columns (rows ++ low_row form at ∷ []) x l (All-push (IsRow columns) rows (low_row form at) fit v.0)
    (All-push (Meets x) rows (low_row form at) meets (low_meets _ _ _ _ (dot-negated form.coefs x w) below)) v.2)

pub sound_system : (system : Rows) (p : Proof) → All (IsRow system.columns) system.rows → ValidProof system p → HasNoPoint system
sound_system system p fit v x h = sound p system.columns system.rows x h.width fit h.meets v
