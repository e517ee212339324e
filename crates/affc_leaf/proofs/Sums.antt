-- Sums of the same multiples in another order, and of two lists of them.
use Rattle.std.proofs.Common.{◌≡◌, ℕ, zero, suc, ◌<◌, List, [], ◌∷◌, ◌++◌, length, take, drop, replicate, ℤ, pos, ◌+ℤ◌, ◌*ℤ◌, refl, sym, ap, subst, ◌∙◌, arith, append_assoc}
use Rattle.std.proofs.lemmas.Int.{ints}
use Rattle.std.proofs.lemmas.List.{take-append-drop}
use Rattle.std.proofs.lemmas.List.Elements.{All-head, All-tail, All-cons}
use Rattle.std.specs.Prelude.{insert}
use Rattle.std.specs.List.{All}
use Rattle.affc_rows.specs.Forms.{Affine, mixed, mixed_form}
use Rattle.affc_rows.proofs.IntLemmas.{one-mul}
use Rattle.affc_farkas.specs.Multiples.{row_at, zero_row, multiple_sum}
use Rattle.affc_leaf.specs.Leaves.{SameSum}

-- ---- two multiples change places

swapped : (a b z u v : ℤ) → u ≡ (b +ℤ (pos 1 *ℤ z)) → v ≡ (a +ℤ (pos 1 *ℤ z)) → a +ℤ (pos 1 *ℤ u) ≡ b +ℤ (pos 1 *ℤ v)
swapped a b z u v e f = let o = one-mul u in let p = one-mul v in omega (arith, ints)

swap-mixed : (s : ℤ) (xs : List ℤ) (t : ℤ) (ys zs : List ℤ) → mixed s xs (pos 1) (mixed t ys (pos 1) zs) ≡ mixed t ys (pos 1) (mixed s xs (pos 1) zs)
swap-mixed s [] t [] zs = refl
swap-mixed s [] t (y ∷ ys) [] = refl
swap-mixed s [] t (y ∷ ys) (z ∷ zs) = refl
swap-mixed s (x ∷ xs) t [] [] = refl
swap-mixed s (x ∷ xs) t [] (z ∷ zs) = refl
swap-mixed s (x ∷ xs) t (y ∷ ys) [] = refl
swap-mixed s (x ∷ xs) t (y ∷ ys) (z ∷ zs) =
    ap (λ w. w ∷ mixed s xs (pos 1) (mixed t ys (pos 1) zs)) (swapped (s *ℤ x) (t *ℤ y) z _ _ refl refl)
    ∙ ap (λ l. ((t *ℤ y) +ℤ (pos 1 *ℤ ((s *ℤ x) +ℤ (pos 1 *ℤ z)))) ∷ l) (swap-mixed s xs t ys zs)

form_is : (f g : Affine) → f.coefs ≡ g.coefs → f.constant ≡ g.constant → f ≡ g
form_is f g e k = ap (λ c. record f { coefs = c }) e ∙ ap (λ z. record g { constant = z }) k

swap-form : (s : ℤ) (f : Affine) (t : ℤ) (g h : Affine) → mixed_form s f (pos 1) (mixed_form t g (pos 1) h) ≡ mixed_form t g (pos 1) (mixed_form s f (pos 1) h)
swap-form s f t g h = form_is (mixed_form s f (pos 1) (mixed_form t g (pos 1) h)) (mixed_form t g (pos 1) (mixed_form s f (pos 1) h)) (swap-mixed s f.coefs t g.coefs h.coefs) (swapped (s *ℤ f.constant) (t *ℤ g.constant) h.constant _ _ refl refl)

-- ---- one multiple comes to the front

front_sum : (columns : ℕ) (rows : List Affine) (many bs : List (ℕ × ℕ)) (p : ℕ × ℕ) → multiple_sum columns rows (many ++ p ∷ bs) ≡ multiple_sum columns rows (p ∷ many ++ bs)
front_sum columns rows [] bs p = refl
front_sum columns rows (a ∷ many) bs p =
    ap (mixed_form (pos a.1) (row_at columns rows a.0) (pos 1)) (front_sum columns rows many bs p)
    ∙ swap-form (pos a.1) (row_at columns rows a.0) (pos p.1) (row_at columns rows p.0) (multiple_sum columns rows (many ++ bs))

front_forth : (n : ℕ) (many bs : List (ℕ × ℕ)) (p : ℕ × ℕ) → All (λ q. q.0 < n) (many ++ p ∷ bs) → All (λ q. q.0 < n) (p ∷ many ++ bs)
front_forth n [] bs p h = h
front_forth n (a ∷ many) bs p h =
    let a_there = All-head (λ q. q.0 < n) a (many ++ p ∷ bs) h in
    let rest = front_forth n many bs p (All-tail (λ q. q.0 < n) a (many ++ p ∷ bs) h) in
    All-cons (λ q. q.0 < n) p (a ∷ many ++ bs) (All-head (λ q. q.0 < n) p (many ++ bs) rest)
    (All-cons (λ q. q.0 < n) a (many ++ bs) a_there (All-tail (λ q. q.0 < n) p (many ++ bs) rest))

front_back : (n : ℕ) (many bs : List (ℕ × ℕ)) (p : ℕ × ℕ) → All (λ q. q.0 < n) (p ∷ many ++ bs) → All (λ q. q.0 < n) (many ++ p ∷ bs)
front_back n [] bs p h = h
front_back n (a ∷ many) bs p h =
    let p_there = All-head (λ q. q.0 < n) p (a ∷ many ++ bs) h in
    let rest = All-tail (λ q. q.0 < n) p (a ∷ many ++ bs) h in
    All-cons (λ q. q.0 < n) a (many ++ p ∷ bs) (All-head (λ q. q.0 < n) a (many ++ bs) rest)
    (front_back n many bs p (All-cons (λ q. q.0 < n) p (many ++ bs) p_there (All-tail (λ q. q.0 < n) a (many ++ bs) rest)))

front : (many bs : List (ℕ × ℕ)) (p : ℕ × ℕ) → SameSum (many ++ p ∷ bs) (p ∷ many ++ bs)
front many bs p = record {
  sums = λ columns rows. front_sum columns rows many bs p;
  forth = λ n. front_forth n many bs p;
  back = λ n. front_back n many bs p;
}

same_sym : (a b : List (ℕ × ℕ)) → SameSum a b → SameSum b a
same_sym a b s = record { sums = λ columns rows. sym (s.sums columns rows); forth = s.back; back = s.forth }

pub same_trans : (a b d : List (ℕ × ℕ)) → SameSum a b → SameSum b d → SameSum a d
same_trans a b d s t = record {
  sums = λ columns rows. s.sums columns rows ∙ t.sums columns rows;
  forth = λ n h. t.forth n (s.forth n h);
  back = λ n h. s.back n (t.back n h);
}

pub same_refl : (a : List (ℕ × ℕ)) → SameSum a a
same_refl a = record { sums = λ columns rows. refl; forth = λ n h. h; back = λ n h. h }

-- a multiple put in at some place, in place of the end
insert_same : (a : List (ℕ × ℕ)) (i : ℕ) (p : ℕ × ℕ) (rest : List (ℕ × ℕ)) → SameSum (insert a i p ++ rest) (a ++ p ∷ rest)
insert_same a i p rest =
    let e : insert a i p ++ rest ≡ take i a ++ p ∷ (drop i a ++ rest) = append_assoc (take i a) (p ∷ drop i a) rest in
    let g : p ∷ take i a ++ (drop i a ++ rest) ≡ p ∷ a ++ rest =
    ap (λ l. p ∷ l) (sym (append_assoc (take i a) (drop i a) rest) ∙ ap (λ l. l ++ rest) (take-append-drop i a)) in
    subst (λ l. SameSum l (a ++ p ∷ rest)) (sym e)
    (same_trans (take i a ++ p ∷ (drop i a ++ rest)) (p ∷ take i a ++ (drop i a ++ rest)) (a ++ p ∷ rest) (front (take i a) (drop i a ++ rest) p)
    (subst (λ l. SameSum l (a ++ p ∷ rest)) (sym g) (same_sym (a ++ p ∷ rest) (p ∷ a ++ rest) (front a rest p))))

-- the same with what is equal to the list with the multiple, and to the multiple alone
pub placed_same : (a b : List (ℕ × ℕ)) (i : ℕ) (p : ℕ × ℕ) (row : List (ℕ × ℕ)) → b ≡ insert a i p → row ≡ p ∷ []
    → (rest : List (ℕ × ℕ)) → SameSum (b ++ rest) (a ++ (row ++ rest))
placed_same a b i p row e f rest =
    subst (λ l. SameSum (b ++ rest) (a ++ (l ++ rest))) (sym f)
    (subst (λ l. SameSum (l ++ rest) (a ++ p ∷ rest)) (sym e) (insert_same a i p rest))

-- ---- the sum of two lists of multiples

zero_added : (d : ℤ) → (pos 1 *ℤ pos 0) +ℤ (pos 1 *ℤ d) ≡ d
zero_added d = omega (arith, ints, one-mul d)

zeros_added : (n : ℕ) (ds : List ℤ) → length ds ≡ n → mixed (pos 1) (replicate n (pos 0)) (pos 1) ds ≡ ds
zeros_added zero [] h = refl
zeros_added zero (d ∷ ds) h = absurd (omega arith)
zeros_added (suc n) [] h = absurd (omega arith)
zeros_added (suc n) (d ∷ ds) h = ap (λ z. z ∷ mixed (pos 1) (replicate n (pos 0)) (pos 1) ds) (zero_added d) ∙ ap (λ l. d ∷ l) (zeros_added n ds (omega arith))

regrouped : (r a b u v : ℤ) → u ≡ (pos 1 *ℤ a) +ℤ (pos 1 *ℤ b) → v ≡ r +ℤ (pos 1 *ℤ a) → r +ℤ (pos 1 *ℤ u) ≡ (pos 1 *ℤ v) +ℤ (pos 1 *ℤ b)
regrouped r a b u v e f = let o = one-mul u in let p = one-mul v in let q = one-mul a in let s = one-mul b in omega (arith, ints)

regroup-mixed : (s : ℤ) (rs many bs : List ℤ) → mixed s rs (pos 1) (mixed (pos 1) many (pos 1) bs) ≡ mixed (pos 1) (mixed s rs (pos 1) many) (pos 1) bs
regroup-mixed s [] many bs = refl
regroup-mixed s (r ∷ rs) [] bs = refl
regroup-mixed s (r ∷ rs) (a ∷ many) [] = refl
regroup-mixed s (r ∷ rs) (a ∷ many) (b ∷ bs) =
    ap (λ w. w ∷ mixed s rs (pos 1) (mixed (pos 1) many (pos 1) bs)) (regrouped (s *ℤ r) a b _ _ refl refl)
    ∙ ap (λ l. ((pos 1 *ℤ ((s *ℤ r) +ℤ (pos 1 *ℤ a))) +ℤ (pos 1 *ℤ b)) ∷ l) (regroup-mixed s rs many bs)

pub sum_of_both : (columns : ℕ) (rows : List Affine) (many bs : List (ℕ × ℕ)) → length (multiple_sum columns rows bs).coefs ≡ columns
    → multiple_sum columns rows (many ++ bs) ≡ mixed_form (pos 1) (multiple_sum columns rows many) (pos 1) (multiple_sum columns rows bs)
sum_of_both columns rows [] bs w = sym (form_is (mixed_form (pos 1) (zero_row columns) (pos 1) (multiple_sum columns rows bs)) (multiple_sum columns rows bs) (zeros_added columns (multiple_sum columns rows bs).coefs w) (zero_added (multiple_sum columns rows bs).constant))
sum_of_both columns rows (a ∷ many) bs w =
    let row = row_at columns rows a.0 in
    let f = multiple_sum columns rows many in
    let g = multiple_sum columns rows bs in
    ap (mixed_form (pos a.1) row (pos 1)) (sum_of_both columns rows many bs w)
    ∙ form_is (mixed_form (pos a.1) row (pos 1) (mixed_form (pos 1) f (pos 1) g)) (mixed_form (pos 1) (mixed_form (pos a.1) row (pos 1) f) (pos 1) g) (regroup-mixed (pos a.1) row.coefs f.coefs g.coefs) (regrouped (pos a.1 *ℤ row.constant) f.constant g.constant _ _ refl refl)

-- ---- the sum of one row once, and of rows that two lists share

once : (c : ℤ) → (pos 1 *ℤ c) +ℤ (pos 1 *ℤ pos 0) ≡ c
once c = omega (arith, ints, one-mul c)

once_each : (cs : List ℤ) (n : ℕ) → length cs ≡ n → mixed (pos 1) cs (pos 1) (replicate n (pos 0)) ≡ cs
once_each [] n h = refl
once_each (c ∷ cs) zero h = absurd (omega arith)
once_each (c ∷ cs) (suc n) h = ap (λ z. z ∷ mixed (pos 1) cs (pos 1) (replicate n (pos 0))) (once c) ∙ ap (λ l. c ∷ l) (once_each cs n (omega arith))

pub sum_of_one : (columns : ℕ) (rows : List Affine) (i : ℕ) → length (row_at columns rows i).coefs ≡ columns → multiple_sum columns rows ((i, 1) ∷ []) ≡ row_at columns rows i
sum_of_one columns rows i w = let row = row_at columns rows i in form_is (mixed_form (pos 1) row (pos 1) (zero_row columns)) row (once_each row.coefs columns w) (once row.constant)

pub sum_shared : (columns : ℕ) (few many : List Affine) (n : ℕ) (by : List (ℕ × ℕ)) → ((i : ℕ) → i < n → row_at columns many i ≡ row_at columns few i) → All (λ p. p.0 < n) by
    → multiple_sum columns many by ≡ multiple_sum columns few by
sum_shared columns few many n [] own there = refl
sum_shared columns few many n (p ∷ ps) own there =
    ap (λ r. mixed_form (pos p.1) r (pos 1) (multiple_sum columns many ps)) (own p.0 (All-head (λ q. q.0 < n) p ps there))
    ∙ ap (mixed_form (pos p.1) (row_at columns few p.0) (pos 1)) (sum_shared columns few many n ps own (All-tail (λ q. q.0 < n) p ps there))
