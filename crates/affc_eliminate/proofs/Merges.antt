-- Lists of multipliers: their merge, and its division.
use Rattle.std.proofs.Common.{◌≡◌, ℕ, zero, suc, ◌+◌, ◌*◌, ◌-◌, ◌/◌, ◌^◌, ◌<◌, ◌≤◌, List, [], ◌∷◌, ◌++◌, length, map, take, drop, get_or, refl, sym, ap, subst, ◌∙◌, inl, inr, arith}
use Rattle.std.specs.List.{All, Contains}
use Prim.Native.Nat.{◌∣◌}
use Rattle.std.specs.Int.{IsGcd}
use Rattle.std.proofs.lemmas.Bool.{cases_eq}
use Rattle.std.proofs.lemmas.List.{drop_more, drop_all}
use Rattle.std.proofs.lemmas.Nat.Gcd.{dvd_trans, dvd_antisymm, dvd-zero, mod-eq-zero_of_dvd, le_of_dvd}
use Rattle.std.proofs.Math.Nat.{dvd-add}
use Rattle.std.proofs.lemmas.List.Elements.{All-nil, All-cons, All-head, All-tail, All-push, All-weaker, All-map, All-more}
use Rattle.affc_farkas.specs.Multiples.{IsRising, AreMultipliers}
use Rattle.affc_eliminate.specs.Mixtures.{weight_of, mixed_weight, IsGreatest, WeightPasses}
use Rattle.affc_eliminate.specs.Merges.{AreTimes, IsTaken, IsTerm, AreMerged, IsDivisor, AreLeast}
use Rattle.affc_eliminate.specs.declared.weights.Term.{Term}
use Rattle.affc_eliminate.specs.declared.weights.Least.{Least}
use Rattle.affc_farkas.proofs.Lists.{take_front, take_last}
use Rattle.affc_eliminate.proofs.Sums.{single, single_here, single_apart}

-- ---- Weights

joined : (a b c d : ℕ) → a ≡ b → (c + a) + d ≡ c + (b + d)
joined a b c d e = omega arith

pub weight_of-append : (xs ys : List (ℕ × ℕ)) (i : ℕ) → weight_of (xs ++ ys) i ≡ weight_of xs i + weight_of ys i
weight_of-append [] ys i = omega arith
weight_of-append (p ∷ ps) ys i = let e = weight_of-append ps ys i in omega arith

nothing : (s t : ℕ) → 0 ≡ s * 0 + t * 0
nothing s t = omega arith

single_zero : (k n : ℕ) → single k 0 n ≡ 0
single_zero k n = elim (cases_eq k n) [ inl e ↦ single_here k 0 n e | inr e ↦ single_apart k 0 n e ]

single_mixed : (s t f g k n : ℕ) → single k (s * f + t * g) n ≡ s * single k f n + t * single k g n
single_mixed s t f g k n = elim (cases_eq k n) [
  | inl e ↦ single_here k (s * f + t * g) n e ∙ ap (λ z. s * z + t * g) (sym (single_here k f n e)) ∙ ap (λ z. s * single k f n + t * z) (sym (single_here k g n e))
  | inr e ↦ single_apart k (s * f + t * g) n e ∙ nothing s t ∙ ap (λ z. s * z + t * 0) (sym (single_apart k f n e)) ∙ ap (λ z. s * single k f n + t * z) (sym (single_apart k g n e))
]

pub taken_weight : (number times : ℕ) (by : List (ℕ × ℕ)) (i j n : ℕ) → IsTaken number times by i j → weight_of (drop i by) n ≡ single number times n + weight_of (drop j by) n
taken_weight number times by i j n h = elim h [
  | inl e ↦ ap (λ xs. weight_of xs n) e.2
  | inr k ↦ let z = ap (λ w. single number w n) k.1 ∙ single_zero number n in let w = ap (λ m. weight_of (drop m by) n) k.0 in omega arith
]

pub no_weight : (by : List (ℕ × ℕ)) (i : ℕ) → All (λ p. i < p.0) by → weight_of by i ≡ 0
no_weight [] i h = refl
no_weight (p ∷ ps) i h =
    let a = All-head (λ q. i < q.0) p ps h in
    let e = single_apart p.0 p.1 i (λ q. absurd (omega arith)) in
    let r = no_weight ps i (All-tail (λ q. i < q.0) p ps h) in omega arith

-- ---- Rising numbers

pub rising_push : (by : List (ℕ × ℕ)) (p : ℕ × ℕ) → IsRising by → All (λ q. q.0 < p.0) by → IsRising (by ++ p ∷ [])
rising_push [] p r h = (All-nil (λ q. p.0 < q.0), tt)
rising_push (q ∷ qs) p r h = (
  All-push (λ z. q.0 < z.0) qs p r.0 (All-head (λ z. z.0 < p.0) q qs h),
  rising_push qs p r.1 (All-tail (λ z. z.0 < p.0) q qs h),
)

next : (a b : ℕ) → a < b → suc a ≤ b
next a b h = omega arith

-- as many numbers as there is room for
few_from : (low high : ℕ) (by : List (ℕ × ℕ)) → IsRising by → All (λ p. low ≤ p.0) by → All (λ p. p.0 < high) by → low ≤ high → low + length by ≤ high
few_from low high [] r a b h = omega arith
few_from low high (p ∷ ps) r a b h =
    let pl = All-head (λ q. low ≤ q.0) p ps a in
    let ph = All-head (λ q. q.0 < high) p ps b in
    let e = few_from (suc p.0) high ps r.1 (All-weaker (λ q. p.0 < q.0) (λ q. suc p.0 ≤ q.0) (λ q l. next p.0 q.0 l) ps r.0) (All-tail (λ q. q.0 < high) p ps b) (omega arith) in
    omega arith

pub few_times : (by : List (ℕ × ℕ)) → AreTimes by → length by ≤ 1024
few_times by h = let e = few_from 0 1024 by h.rising (All-weaker (λ p. p.0 < 1024) (λ p. 0 ≤ p.0) (λ p l. omega arith) by h.named) h.named (omega arith) in omega arith

-- ---- One term more of the merge

pub record IsMerging (s : ℕ) (first : List (ℕ × ℕ)) (t : ℕ) (second left right sums : List (ℕ × ℕ)) : Type 0 where
  pub weights : (i : ℕ) → weight_of sums i + mixed_weight s left t right i ≡ mixed_weight s first t second i
  pub left_times : AreTimes left
  pub right_times : AreTimes right
  pub times : AreTimes sums
  pub small : All (λ p. p.1 < 2 ^ 127) sums
  pub left_above : All (λ p. All (λ q. p.0 < q.0) left) sums
  pub right_above : All (λ p. All (λ q. p.0 < q.0) right) sums

no_times : AreTimes []
no_times = record { rising = tt; positive = All-nil (λ p. 1 ≤ p.1); named = All-nil (λ p. p.0 < 1024) }

-- what is left after a term
tail_times : (p : ℕ × ℕ) (ps : List (ℕ × ℕ)) → AreTimes (p ∷ ps) → AreTimes ps
tail_times p ps h = record { rising = h.rising.1; positive = All-tail (λ q. 1 ≤ q.1) p ps h.positive; named = All-tail (λ q. q.0 < 1024) p ps h.named }

rest_times : (number times : ℕ) (by : List (ℕ × ℕ)) (i j : ℕ) → IsTaken number times by i j → AreTimes (drop i by) → AreTimes (drop j by)
rest_times number times by i j h a = elim h [
  | inl e ↦ tail_times (number, times) (drop j by) (subst AreTimes e.2 a)
  | inr k ↦ subst (λ m. AreTimes (drop m by)) (sym k.0) a
]

rest_above : (number times : ℕ) (by : List (ℕ × ℕ)) (i j : ℕ) → IsTaken number times by i j → IsRising (drop i by) → All (λ q. number < q.0) (drop j by)
rest_above number times by i j h r = elim h [
  | inl e ↦ (subst IsRising e.2 r).0
  | inr k ↦ subst (λ m. All (λ q. number < q.0) (drop m by)) (sym k.0) k.2
]

rest_all : (P : ℕ × ℕ → Type 0) (number times : ℕ) (by : List (ℕ × ℕ)) (i j : ℕ) → IsTaken number times by i j → All P (drop i by) → All P (drop j by)
rest_all P number times by i j h a = elim h [
  | inl e ↦ All-tail P (number, times) (drop j by) (subst (All P) e.2 a)
  | inr k ↦ subst (λ m. All P (drop m by)) (sym k.0) a
]

-- the term is of one of the lists
some_taken : (first : List (ℕ × ℕ)) (left : ℕ) (second : List (ℕ × ℕ)) (right : ℕ) (term : Term) (P : Type 0) → IsTerm first left second right term
    → (drop left first ≡ (term.number, term.first) ∷ drop term.left first → P) → (drop right second ≡ (term.number, term.second) ∷ drop term.right second → P) → P
some_taken first left second right term P h f g = elim h.first_is [
  | inl e ↦ f e.2
  | inr k ↦ elim h.second_is [
    | inl e ↦ g e.2
    | inr l ↦ let a = k.0 in let b = l.0 in let c = h.some in absurd (omega arith)
  ]
]

one_part : (s w r : ℕ) → 1 ≤ s → 1 ≤ w → 1 ≤ s * w + r
one_part (suc s) (suc w) r h k = omega arith
one_part zero w r h k = absurd (omega arith)
one_part (suc s) zero r h k = absurd (omega arith)

turned : (a b : ℕ) → 1 ≤ a + b → 1 ≤ b + a
turned a b h = omega arith

-- the row's number comes after those before it
number_after : (first : List (ℕ × ℕ)) (left : ℕ) (second : List (ℕ × ℕ)) (right : ℕ) (term : Term) (p : ℕ × ℕ) → IsTerm first left second right term
    → All (λ q. p.0 < q.0) (drop left first) → All (λ q. p.0 < q.0) (drop right second) → p.0 < term.number
number_after first left second right term p h a b = some_taken first left second right term (p.0 < term.number) h
    (λ e. All-head (λ q. p.0 < q.0) (term.number, term.first) (drop term.left first) (subst (All (λ q. p.0 < q.0)) e a))
    (λ e. All-head (λ q. p.0 < q.0) (term.number, term.second) (drop term.right second) (subst (All (λ q. p.0 < q.0)) e b))

number_small : (first : List (ℕ × ℕ)) (left : ℕ) (second : List (ℕ × ℕ)) (right : ℕ) (term : Term) → IsTerm first left second right term
    → AreTimes (drop left first) → AreTimes (drop right second) → term.number < 1024
number_small first left second right term h a b = some_taken first left second right term (term.number < 1024) h
    (λ e. All-head (λ q. q.0 < 1024) (term.number, term.first) (drop term.left first) (subst (All (λ q. q.0 < 1024)) e a.named))
    (λ e. All-head (λ q. q.0 < 1024) (term.number, term.second) (drop term.right second) (subst (All (λ q. q.0 < 1024)) e b.named))

sum_positive : (s t : ℕ) (first : List (ℕ × ℕ)) (left : ℕ) (second : List (ℕ × ℕ)) (right : ℕ) (term : Term) → IsTerm first left second right term
    → AreTimes (drop left first) → AreTimes (drop right second) → 1 ≤ s → 1 ≤ t → 1 ≤ s * term.first + t * term.second
sum_positive s t first left second right term h a b ps pt = some_taken first left second right term (1 ≤ s * term.first + t * term.second) h
    (λ e. one_part s term.first (t * term.second) ps (All-head (λ q. 1 ≤ q.1) (term.number, term.first) (drop term.left first) (subst (All (λ q. 1 ≤ q.1)) e a.positive)))
    (λ e. turned (t * term.second) (s * term.first) (one_part t term.second (s * term.first) pt (All-head (λ q. 1 ≤ q.1) (term.number, term.second) (drop term.right second) (subst (All (λ q. 1 ≤ q.1)) e b.positive))))

mixed_two : (s t a b c d : ℕ) → s * (a + b) + t * (c + d) ≡ (s * a + t * c) + (s * b + t * d)
mixed_two s t a b c d = omega arith

term_weight : (s t : ℕ) (first : List (ℕ × ℕ)) (left : ℕ) (second : List (ℕ × ℕ)) (right : ℕ) (term : Term) (i : ℕ) → IsTerm first left second right term
    → mixed_weight s (drop left first) t (drop right second) i
    ≡ single term.number (s * term.first + t * term.second) i + mixed_weight s (drop term.left first) t (drop term.right second) i
term_weight s t first left second right term i h =
    let l = drop term.left first in
    let r = drop term.right second in
    ap (λ z. s * z + t * weight_of (drop right second) i) (taken_weight term.number term.first first left term.left i h.first_is)
    ∙ ap (λ z. s * (single term.number term.first i + weight_of l i) + t * z) (taken_weight term.number term.second second right term.right i h.second_is)
    ∙ mixed_two s t (single term.number term.first i) (weight_of l i) (single term.number term.second i) (weight_of r i)
    ∙ ap (λ z. z + mixed_weight s l t r i) (sym (single_mixed s t term.first term.second term.number i))

one_more : (old term rest left whole : ℕ) → left ≡ term + rest → old + left ≡ whole → (old + (term + 0)) + rest ≡ whole
one_more old term rest left whole e h = omega arith

push_times : (by : List (ℕ × ℕ)) (p : ℕ × ℕ) → AreTimes by → All (λ q. q.0 < p.0) by → 1 ≤ p.1 → p.0 < 1024 → AreTimes (by ++ p ∷ [])
push_times by p h above one named = record {
  rising = rising_push by p h.rising above;
  positive = All-push (λ q. 1 ≤ q.1) by p h.positive one;
  named = All-push (λ q. q.0 < 1024) by p h.named named;
}

both_all : {X : Type 0} (P Q R : X → Type 0) → ((x : X) → P x → Q x → R x) → (xs : List X) → All P xs → All Q xs → All R xs
both_all P Q R f xs h k = λ i d lt. f _ (h i d lt) (k i d lt)

pub merging_more : (s : ℕ) (first : List (ℕ × ℕ)) (t : ℕ) (second : List (ℕ × ℕ)) (left right : ℕ) (sums : List (ℕ × ℕ)) (term : Term) (sum : ℕ) → 1 ≤ s → 1 ≤ t
    → IsMerging s first t second (drop left first) (drop right second) sums → IsTerm first left second right term → sum ≡ s * term.first + t * term.second → sum < 2 ^ 127
    → IsMerging s first t second (drop term.left first) (drop term.right second) (sums ++ (term.number, sum) ∷ [])
merging_more s first t second left right sums term sum ps pt m h e lt =
    let n = term.number in
    let old_left = drop left first in
    let old_right = drop right second in
    let new_left = drop term.left first in
    let new_right = drop term.right second in
    let above : All (λ q. q.0 < n) sums = both_all (λ p. All (λ q. p.0 < q.0) old_left) (λ p. All (λ q. p.0 < q.0) old_right) (λ q. q.0 < n) (λ p a b. number_after first left second right term p h a b) sums m.left_above m.right_above in
    record {
      weights = λ i.
          ap (λ z. z + mixed_weight s new_left t new_right i) (weight_of-append sums ((n, sum) ∷ []) i)
          ∙ one_more (weight_of sums i) (single n sum i) (mixed_weight s new_left t new_right i) (mixed_weight s old_left t old_right i) (mixed_weight s first t second i)
          (subst (λ z. mixed_weight s old_left t old_right i ≡ single n z i + mixed_weight s new_left t new_right i) (sym e) (term_weight s t first left second right term i h)) (m.weights i);
      left_times = rest_times n term.first first left term.left h.first_is m.left_times;
      right_times = rest_times n term.second second right term.right h.second_is m.right_times;
      times = push_times sums (n, sum) m.times above (subst (λ z. 1 ≤ z) (sym e) (sum_positive s t first left second right term h m.left_times m.right_times ps pt)) (number_small first left second right term h m.left_times m.right_times);
      small = All-push (λ p. p.1 < 2 ^ 127) sums (n, sum) m.small lt;
      left_above = All-push (λ p. All (λ q. p.0 < q.0) new_left) sums (n, sum)
          (All-weaker (λ p. All (λ q. p.0 < q.0) old_left) (λ p. All (λ q. p.0 < q.0) new_left) (λ p a. rest_all (λ q. p.0 < q.0) n term.first first left term.left h.first_is a) sums m.left_above)
          (rest_above n term.first first left term.left h.first_is m.left_times.rising);
      right_above = All-push (λ p. All (λ q. p.0 < q.0) new_right) sums (n, sum)
          (All-weaker (λ p. All (λ q. p.0 < q.0) old_right) (λ p. All (λ q. p.0 < q.0) new_right) (λ p a. rest_all (λ q. p.0 < q.0) n term.second second right term.right h.second_is a) sums m.right_above)
          (rest_above n term.second second right term.right h.second_is m.right_times.rising);
    }

no_rest : (s t a whole : ℕ) → a + (s * 0 + t * 0) ≡ whole → a ≡ whole
no_rest s t a whole h = omega arith

at_least : (a s t f f' fr g g' gr whole bound : ℕ) → f ≡ f' + fr → g ≡ g' + gr → a + (s * f + t * g) ≡ whole → bound ≤ s * f' + t * g' → bound ≤ whole
at_least a s t f f' fr g g' gr whole bound e h m b =
    let u = ap (λ z. s * z) e in let v = ap (λ z. t * z) h in omega arith

pub merging_wide : (s : ℕ) (first : List (ℕ × ℕ)) (t : ℕ) (second : List (ℕ × ℕ)) (left right : ℕ) (sums : List (ℕ × ℕ)) (term : Term)
    → IsMerging s first t second (drop left first) (drop right second) sums → IsTerm first left second right term
    → 2 ^ 127 ≤ s * term.first + t * term.second → (i : ℕ) × (2 ^ 127 ≤ mixed_weight s first t second i)
merging_wide s first t second left right sums term m h wide =
    let n = term.number in
    let one : (w : ℕ) → single n w n ≡ w = λ w. single_here n w n refl in
    let wl = weight_of (drop term.left first) n in
    let wr = weight_of (drop term.right second) n in (
      n,
      at_least (weight_of sums n) s t (weight_of (drop left first) n) term.first wl (weight_of (drop right second) n) term.second wr (mixed_weight s first t second n) (2 ^ 127)
          (taken_weight n term.first first left term.left n h.first_is ∙ ap (λ z. z + wl) (one term.first))
          (taken_weight n term.second second right term.right n h.second_is ∙ ap (λ z. z + wr) (one term.second)) (m.weights n) wide,
    )

-- ---- The division

divides_single : (d k w n : ℕ) → d ∣ w → d ∣ single k w n
divides_single d k w n h = elim (cases_eq k n) [
  | inl e ↦ subst (λ z. d ∣ z) (sym (single_here k w n e)) h
  | inr e ↦ subst (λ z. d ∣ z) (sym (single_apart k w n e)) (dvd-zero d)
]

divides_weight : (d : ℕ) (sums : List (ℕ × ℕ)) (i : ℕ) → All (λ p. d ∣ p.1) sums → d ∣ weight_of sums i
divides_weight d [] i h = dvd-zero d
divides_weight d (p ∷ ps) i h = dvd-add d (divides_single d p.0 p.1 i (All-head (λ q. d ∣ q.1) p ps h)) (divides_weight d ps i (All-tail (λ q. d ∣ q.1) p ps h))

no_last : (w r : ℕ) → r ≡ 0 → w + r ≡ w
no_last w r z = omega arith

no_first : (r : ℕ) → 0 + r ≡ r
no_first r = omega arith

-- where the numbers rise, each row's weight is one multiplier
divides_each : (k : ℕ) (sums : List (ℕ × ℕ)) → IsRising sums → ((i : ℕ) → k ∣ weight_of sums i) → All (λ p. k ∣ p.1) sums
divides_each k [] r h = All-nil (λ p. k ∣ p.1)
divides_each k (p ∷ ps) r h =
    let none = no_weight ps p.0 r.0 in
    All-cons (λ q. k ∣ q.1) p ps
    (subst (λ z. k ∣ z) (ap (λ z. z + weight_of ps p.0) (single_here p.0 p.1 p.0 refl) ∙ no_last p.1 (weight_of ps p.0) none) (h p.0))
    (divides_each k ps r.1 (λ i. elim (cases_eq p.0 i) [
      | inl e ↦ subst (λ z. k ∣ z) (sym (ap (λ z. weight_of ps z) (sym e) ∙ none)) (dvd-zero k)
      | inr e ↦ subst (λ z. k ∣ z) (ap (λ z. z + weight_of ps i) (single_apart p.0 p.1 i e) ∙ no_first (weight_of ps i)) (h i)
    ]))

pub divisor_is_greatest : (divisor s : ℕ) (first : List (ℕ × ℕ)) (t : ℕ) (second sums : List (ℕ × ℕ)) → AreMerged s first t second sums → IsDivisor divisor sums
    → IsGreatest divisor (mixed_weight s first t second)
divisor_is_greatest divisor s first t second sums m d = record {
  divides = λ i. subst (λ z. divisor ∣ z) (m.weights i) (divides_weight divisor sums i d.divides);
  greatest = λ k h. d.greatest k (divides_each k sums m.times.rising (λ i. subst (λ z. k ∣ z) (sym (m.weights i)) (h i)));
}

quotient : (d w : ℕ) → 1 ≤ d → d ∣ w → d * (w / d) ≡ w
quotient d w one h = let e = mod-eq-zero_of_dvd d h in omega (arith, e)

times_zero : (d : ℕ) → d * 0 ≡ 0
times_zero d = omega arith

quotient_single : (d k w n : ℕ) → 1 ≤ d → d ∣ w → d * single k (w / d) n ≡ single k w n
quotient_single d k w n one h = elim (cases_eq k n) [
  | inl e ↦ ap (λ z. d * z) (single_here k (w / d) n e) ∙ quotient d w one h ∙ sym (single_here k w n e)
  | inr e ↦ ap (λ z. d * z) (single_apart k (w / d) n e) ∙ times_zero d ∙ sym (single_apart k w n e)
]

-- the multipliers divided by a number
abbrev pub divided_by : ℕ → List (ℕ × ℕ) → List (ℕ × ℕ)
divided_by d by = map (λ p. (p.0, p.1 / d)) by

spread : (d a b : ℕ) → d * (a + b) ≡ d * a + d * b
spread d a b = omega arith

pub divided_weight : (d : ℕ) (sums : List (ℕ × ℕ)) (i : ℕ) → 1 ≤ d → All (λ p. d ∣ p.1) sums → d * weight_of (divided_by d sums) i ≡ weight_of sums i
divided_weight d [] i one h = times_zero d
divided_weight d (p ∷ ps) i one h =
    spread d (single p.0 (p.1 / d) i) (weight_of (divided_by d ps) i)
    ∙ ap (λ z. z + d * weight_of (divided_by d ps) i) (quotient_single d p.0 p.1 i one (All-head (λ q. d ∣ q.1) p ps h))
    ∙ ap (λ z. single p.0 p.1 i + z) (divided_weight d ps i one (All-tail (λ q. d ∣ q.1) p ps h))

quotient_positive : (d q w : ℕ) → 1 ≤ w → d * q ≡ w → 1 ≤ q
quotient_positive d zero w h e = absurd (omega arith)
quotient_positive d (suc q) w h e = omega arith

rising_divided : (d : ℕ) (sums : List (ℕ × ℕ)) → IsRising sums → IsRising (divided_by d sums)
rising_divided d [] h = tt
rising_divided d (p ∷ ps) h = (All-map (λ q. p.0 < q.0) (λ q. (q.0, q.1 / d)) ps h.0, rising_divided d ps h.1)

pub divided_times : (d : ℕ) (sums : List (ℕ × ℕ)) → 1 ≤ d → All (λ p. d ∣ p.1) sums → AreTimes sums → AreTimes (divided_by d sums)
divided_times d sums one h t = record {
  rising = rising_divided d sums t.rising;
  positive = All-map (λ q. 1 ≤ q.1) (λ q. (q.0, q.1 / d)) sums (both_all (λ p. d ∣ p.1) (λ p. 1 ≤ p.1) (λ p. 1 ≤ p.1 / d) (λ p a b. quotient_positive d (p.1 / d) p.1 b (quotient d p.1 one a)) sums h t.positive);
  named = All-map (λ q. q.0 < 1024) (λ q. (q.0, q.1 / d)) sums t.named;
}

pub multipliers_from : (by : List (ℕ × ℕ)) → AreTimes by → All (λ p. p.1 ≤ 2 ^ 53) by → AreMultipliers by
multipliers_from by h small = record { few = few_times by h; positive = h.positive; small = small; rising = h.rising }

-- the divisor is at least 1, and below 2^127
zero_divides : (w : ℕ) → 0 ∣ w → w ≡ 0
zero_divides w h = dvd_antisymm (dvd-zero w) h

pub divisor_range : (d : ℕ) (p : ℕ × ℕ) (ps : List (ℕ × ℕ)) → All (λ q. d ∣ q.1) (p ∷ ps) → AreTimes (p ∷ ps) → All (λ q. q.1 < 2 ^ 127) (p ∷ ps) → (1 ≤ d) × (d < 2 ^ 127)
divisor_range zero p ps h t s =
    let z = zero_divides p.1 (All-head (λ q. 0 ∣ q.1) p ps h) in
    let o = All-head (λ q. 1 ≤ q.1) p ps t.positive in absurd (omega arith)
divisor_range (suc d) p ps h t s =
    let o : 0 < p.1 = All-head (λ q. 1 ≤ q.1) p ps t.positive in
    let l = le_of_dvd o (All-head (λ q. suc d ∣ q.1) p ps h) in
    let m = All-head (λ q. q.1 < 2 ^ 127) p ps s in (omega arith, omega arith)

-- some row has a weight, so there are multipliers
pub divisor_fits : (d s : ℕ) (first : List (ℕ × ℕ)) (t : ℕ) (second sums : List (ℕ × ℕ)) → AreMerged s first t second sums → All (λ p. d ∣ p.1) sums
    → 1 ≤ s → (i : ℕ) → 1 ≤ weight_of first i → (1 ≤ d) × (d < 2 ^ 127)
divisor_fits d s first t second [] m h one i w = let e = m.weights i in let o = one_part s (weight_of first i) (t * weight_of second i) one w in absurd (omega arith)
divisor_fits d s first t second (p ∷ ps) m h one i w = divisor_range d p ps h m.times m.small

-- a rising list gives a number the multiplier beside it
weight_at : (by : List (ℕ × ℕ)) (k : ℕ) (d : ℕ × ℕ) → IsRising by → k < length by → weight_of by (get_or by k d).0 ≡ (get_or by k d).1
weight_at [] k d r lt = absurd (omega arith)
weight_at (p ∷ ps) zero d r lt = let a = single_here p.0 p.1 p.0 refl in let b = no_weight ps p.0 r.0 in omega arith
weight_at (p ∷ ps) (suc k) d r lt =
    let above : p.0 < (get_or ps k d).0 = r.0 k d (omega arith) in
    let a = single_apart p.0 p.1 (get_or ps k d).0 (λ q. absurd (omega arith)) in
    let b = weight_at ps k d r.1 (omega arith) in omega arith

pub quotient_passes : (d s : ℕ) (first : List (ℕ × ℕ)) (t : ℕ) (second sums : List (ℕ × ℕ)) (k : ℕ) (p : ℕ × ℕ) → AreMerged s first t second sums → IsDivisor d sums → 1 ≤ d
    → k < length sums → 2 ^ 53 < (get_or sums k p).1 / d → WeightPasses (mixed_weight s first t second)
quotient_passes d s first t second sums k p m h one lt wide =
    let q = get_or sums k p in
    inr (d, q.0, q.1 / d, divisor_is_greatest d s first t second sums m h, sym (m.weights q.0) ∙ weight_at sums k p m.times.rising lt ∙ sym (quotient d q.1 one (h.divides k p lt)), wide)

-- ---- The next term

pub taken_here : (by : List (ℕ × ℕ)) (i : ℕ) (p : ℕ × ℕ) → i < length by → p ≡ get_or by i p → IsTaken p.0 p.1 by i (i + 1)
taken_here by i p lt e = inl (refl, lt, drop_more by i p lt ∙ ap (λ z. z ∷ drop (i + 1) by) (sym e))

pub taken_past : (by : List (ℕ × ℕ)) (i n : ℕ) → length by ≤ i → IsTaken n 0 by i i
taken_past by i n le = inr (refl, refl, subst (All (λ p. n < p.0)) (sym (drop_all i by le)) (All-nil (λ p. n < p.0)))

below : (a b c : ℕ) → a < b → b < c → a < c
below a b c h k = omega arith

pub taken_above : (by : List (ℕ × ℕ)) (i n : ℕ) (q : ℕ × ℕ) → i < length by → q ≡ get_or by i q → n < q.0 → IsRising (drop i by) → IsTaken n 0 by i i
taken_above by i n q lt e h r =
    let cut : drop i by ≡ q ∷ drop (i + 1) by = drop_more by i q lt ∙ ap (λ z. z ∷ drop (i + 1) by) (sym e) in
    let rising = subst IsRising cut r in
    inr (refl, refl, subst (All (λ p. n < p.0)) (sym cut) (All-cons (λ p. n < p.0) q (drop (i + 1) by) h (All-weaker (λ p. q.0 < p.0) (λ p. n < p.0) (λ p l. below n q.0 p.0 h l) (drop (i + 1) by) rising.0)))

-- both lists have the number
pub taken_same : (by : List (ℕ × ℕ)) (i n : ℕ) (q : ℕ × ℕ) → i < length by → q ≡ get_or by i q → q.0 ≡ n → IsTaken n q.1 by i (i + 1)
taken_same by i n q lt e h = subst (λ m. IsTaken m q.1 by i (i + 1)) h (taken_here by i q lt e)

one_side : (i j : ℕ) → i + j < (i + 1) + j
one_side i j = omega arith

other_side : (i j : ℕ) → i + j < i + (j + 1)
other_side i j = omega arith

both_sides : (i j : ℕ) → i + j < (i + 1) + (j + 1)
both_sides i j = omega arith

pub first_alone : (first : List (ℕ × ℕ)) (i : ℕ) (second : List (ℕ × ℕ)) (j : ℕ) (p : ℕ × ℕ) → i < length first → p ≡ get_or first i p → length second ≤ j
    → IsTerm first i second j (record { number = p.0; first = p.1; second = 0; left = i + 1; right = j })
first_alone first i second j p lt e le = record { first_is = taken_here first i p lt e; second_is = taken_past second j p.0 le; some = one_side i j }

pub first_below : (first : List (ℕ × ℕ)) (i : ℕ) (second : List (ℕ × ℕ)) (j : ℕ) (p q : ℕ × ℕ) → i < length first → p ≡ get_or first i p → j < length second → q ≡ get_or second j q
    → p.0 < q.0 → IsRising (drop j second) → IsTerm first i second j (record { number = p.0; first = p.1; second = 0; left = i + 1; right = j })
first_below first i second j p q lt e lt' e' h r = record { first_is = taken_here first i p lt e; second_is = taken_above second j p.0 q lt' e' h r; some = one_side i j }

pub both_here : (first : List (ℕ × ℕ)) (i : ℕ) (second : List (ℕ × ℕ)) (j : ℕ) (p q : ℕ × ℕ) → i < length first → p ≡ get_or first i p → j < length second → q ≡ get_or second j q
    → q.0 ≡ p.0 → IsTerm first i second j (record { number = p.0; first = p.1; second = q.1; left = i + 1; right = j + 1 })
both_here first i second j p q lt e lt' e' h = record { first_is = taken_here first i p lt e; second_is = taken_same second j p.0 q lt' e' h; some = both_sides i j }

-- ---- The greatest common divisor, one multiplier more

front_of : (P : ℕ × ℕ → Type 0) (by : List (ℕ × ℕ)) (i : ℕ) (d : ℕ × ℕ) → i < length by → All P (take (i + 1) by) → All P (take i by) × P (get_or by i d)
front_of P by i d lt h = (take_front P by i d lt h, take_last P by i d lt h)

pub divisor_more : (old new : ℕ) (by : List (ℕ × ℕ)) (i : ℕ) (p : ℕ × ℕ) → i < length by → p ≡ get_or by i p → IsGcd old p.1 new → IsDivisor old (take i by) → IsDivisor new (take (i + 1) by)
divisor_more old new by i p lt e g h = record {
  divides = All-more (λ q. new ∣ q.1) by i p lt (All-weaker (λ q. old ∣ q.1) (λ q. new ∣ q.1) (λ q d. dvd_trans new g.0 d) (take i by) h.divides) (subst (λ q. new ∣ q.1) e g.1);
  greatest = λ k a. let f = front_of (λ q. k ∣ q.1) by i p lt a in g.2 k (h.greatest k f.0) (subst (λ q. k ∣ q.1) (sym e) f.1);
}

-- ---- The multipliers of a mixture

head_weight : (p : ℕ × ℕ) (ps : List (ℕ × ℕ)) → 1 ≤ p.1 → 1 ≤ weight_of (p ∷ ps) p.0
head_weight p ps one = let e = single_here p.0 p.1 p.0 refl in omega arith

pub some_weight : (by : List (ℕ × ℕ)) → AreMultipliers by → 1 ≤ length by → (i : ℕ) × (1 ≤ weight_of by i)
some_weight [] h one = absurd (omega arith)
some_weight (p ∷ ps) h one = (p.0, head_weight p ps (All-head (λ q. 1 ≤ q.1) p ps h.positive))

pub least_are : (s : ℕ) (first : List (ℕ × ℕ)) (t : ℕ) (second sums : List (ℕ × ℕ)) (least : Least) → AreMerged s first t second sums → IsDivisor least.divisor sums
    → 1 ≤ least.divisor → least.divisor < 2 ^ 127 → least.from ≡ divided_by least.divisor sums → AreLeast s first t second least
least_are s first t second sums least m d one small e = record {
  positive = one;
  small = small;
  greatest = divisor_is_greatest least.divisor s first t second sums m d;
  weights = λ i. ap (λ z. least.divisor * weight_of z i) e ∙ divided_weight least.divisor sums i one d.divides ∙ m.weights i;
  named = subst (All (λ p. p.0 < 1024)) (sym e) (divided_times least.divisor sums one d.divides m.times).named;
}

-- some quotient is too great
pub quotient_wide : (d s : ℕ) (first : List (ℕ × ℕ)) (t : ℕ) (second sums slice : List (ℕ × ℕ)) (p : ℕ × ℕ) → AreMerged s first t second sums → IsDivisor d sums → 1 ≤ d
    → slice ≡ sums → Contains slice p → 2 ^ 53 < p.1 / d → WeightPasses (mixed_weight s first t second)
quotient_wide d s first t second sums slice p m h one e c wide =
    let k = subst (λ xs. Contains xs p) e c in
    quotient_passes d s first t second sums k.0 p m h one k.1 (subst (λ q. 2 ^ 53 < q.1 / d) (sym k.2) wide)
