-- How the number of open spans goes from one instant to the next.
use Rattle.std.proofs.Common.{◌≡◌, ◌≢◌, ℕ, zero, suc, ◌+◌, ◌<◌, ◌≤◌, Bool, true, false, cond, ◌&&◌, nat_eq, nat_lt, nat_le, List, [], ◌∷◌, length, refl, sym, ap, subst, ◌∙◌, ◌⊎◌, inl, inr, arith, true≢false}
use Rattle.std.specs.List.{All, count_by}
use Rattle.std.proofs.lemmas.Bool.{eqb-true, eq-eqb, ltb-true, lt-ltb, leb-true, le-leb}
use Rattle.std.proofs.lemmas.List.Elements.{All-rest, All-get_or}
use Rattle.std.proofs.lemmas.List.Sums.{sum_by-cons}
use Rattle.affc_floor.specs.declared.span.Span.{Span}
use Rattle.affc_floor.specs.declared.span.Most.{Most}
use Rattle.affc_floor.specs.Spans.{IsWithin, is_open, open_at, begins, ends_at, is_left, left_open, IsGreatestBefore, IsGreatest}

abbrev bit : Bool → ℕ
bit b = cond b 1 0

not_true : (b : Bool) → (b ≡ true → ⊥) → b ≡ false
not_true true n = absurd (n refl)
not_true false n = refl

lt_no : (a b : ℕ) → b ≤ a → nat_lt a b ≡ false
lt_no a b h = not_true (nat_lt a b) (λ e. over (ltb-true a b e))
  where
    over : a < b → ⊥
    over g = omega arith

le_no : (a b : ℕ) → b < a → nat_le a b ≡ false
le_no a b h = not_true (nat_le a b) (λ e. over (leb-true a b e))
  where
    over : a ≤ b → ⊥
    over g = omega arith

eq_no : (a b : ℕ) → a ≢ b → nat_eq a b ≡ false
eq_no a b n = not_true (nat_eq a b) (λ e. n (eqb-true a b e))

three : (a b : ℕ) → (a < b) ⊎ ((a ≡ b) ⊎ (b < a))
three zero zero = inr (inl refl)
three zero (suc b) = inl (omega arith)
three (suc a) zero = inr (inr (omega arith))
three (suc a) (suc b) = elim (three a b) [ inl h ↦ inl (omega arith) | inr g ↦ elim g [ inl e ↦ inr (inl (ap suc e)) | inr h ↦ inr (inr (omega arith)) ] ]

-- one span: before and begun is open and ended
abbrev Balanced : (a b c d e g : Bool) → Type 0
Balanced a b c d e g = bit (a && b) + bit c ≡ bit (d && e) + bit g

balanced : (a b c d e g a' b' c' d' e' g' : Bool) → a ≡ a' → b ≡ b' → c ≡ c' → d ≡ d' → e ≡ e' → g ≡ g' → Balanced a' b' c' d' e' g' → Balanced a b c d e g
balanced a b c d e g a' b' c' d' e' g' p q r s t u h =
    subst (λ z. Balanced z b c d e g) (sym p) (subst (λ z. Balanced a' z c d e g) (sym q) (subst (λ z. Balanced a' b' z d e g) (sym r)
    (subst (λ z. Balanced a' b' c' z e g) (sym s) (subst (λ z. Balanced a' b' c' d' z g) (sym t) (subst (λ z. Balanced a' b' c' d' e' z) (sym u) h)))))

one_balanced : (i f u : ℕ) → f < u → Balanced (nat_lt f i) (nat_le i u) (nat_eq f i) (nat_le f i) (nat_lt i u) (nat_eq u i)
one_balanced i f u h = elim (three f i) [
  | inl l ↦ elim (three i u) [
    | inl m ↦ here true true false true true false (lt-ltb f i l) (le-leb i u (omega arith)) (eq_no f i (omega arith)) (le-leb f i (omega arith)) (lt-ltb i u m) (eq_no u i (omega arith)) (omega arith)
    | inr m ↦ elim m [
      | inl e ↦ here true true false true false true (lt-ltb f i l) (le-leb i u (omega (arith, e))) (eq_no f i (omega arith)) (le-leb f i (omega arith)) (lt_no i u (omega (arith, e))) (eq-eqb u i (sym e)) (omega arith)
      | inr g ↦ here true false false true false false (lt-ltb f i l) (le_no i u g) (eq_no f i (omega arith)) (le-leb f i (omega arith)) (lt_no i u (omega arith)) (eq_no u i (omega arith)) (omega arith)
    ]
  ]
  | inr k ↦ elim k [
    | inl e ↦ here false true true true true false (lt_no f i (omega (arith, e))) (le-leb i u (omega (arith, e))) (eq-eqb f i e) (le-leb f i (omega (arith, e))) (lt-ltb i u (omega (arith, e))) (eq_no u i (omega (arith, e))) (omega arith)
    | inr g ↦ here false true false false true false (lt_no f i (omega arith)) (le-leb i u (omega arith)) (eq_no f i (omega arith)) (le_no f i g) (lt-ltb i u (omega arith)) (eq_no u i (omega arith)) (omega arith)
  ]
]
  where
    here : (a b c d e g : Bool) → nat_lt f i ≡ a → nat_le i u ≡ b → nat_eq f i ≡ c → nat_le f i ≡ d → nat_lt i u ≡ e → nat_eq u i ≡ g → Balanced a b c d e g
        → Balanced (nat_lt f i) (nat_le i u) (nat_eq f i) (nat_le f i) (nat_lt i u) (nat_eq u i)
    here a b c d e g p q r s t v w = balanced (nat_lt f i) (nat_le i u) (nat_eq f i) (nat_le f i) (nat_lt i u) (nat_eq u i) a b c d e g p q r s t v w

-- a span that was open before doesn't begin
one_at_most : (i f u : ℕ) → bit (nat_lt f i && nat_le i u) + bit (nat_eq f i) ≤ 1
one_at_most i f u = elim (three f i) [
  | inl l ↦ few (nat_lt f i) (nat_le i u) (nat_eq f i) (inr (eq_no f i (omega arith)))
  | inr k ↦ few (nat_lt f i) (nat_le i u) (nat_eq f i) (inl (lt_no f i (elim k [ inl e ↦ omega (arith, e) | inr g ↦ omega arith ])))
]
  where
    few : (a b c : Bool) → (a ≡ false) ⊎ (c ≡ false) → bit (a && b) + bit c ≤ 1
    few true true true (inl e) = absurd (true≢false e)
    few true true true (inr e) = absurd (true≢false e)
    few true true false o = omega arith
    few true false true o = omega arith
    few true false false o = omega arith
    few false b true o = omega arith
    few false b false o = omega arith

bits : (p : Span → Bool) (s : Span) (spans : List Span) → count_by p (s ∷ spans) ≡ bit (p s) + count_by p spans
bits p s spans = sum_by-cons (λ x. cond (p x) 1 0) s spans

rest : (instants : ℕ) (s : Span) (spans : List Span) → All (IsWithin instants) (s ∷ spans) → All (IsWithin instants) spans
rest instants s spans all = All-rest (IsWithin instants) s spans (s ∷ spans) refl all

first : (instants : ℕ) (s : Span) (spans : List Span) → All (IsWithin instants) (s ∷ spans) → IsWithin instants s
first instants s spans all = All-get_or (IsWithin instants) (s ∷ spans) 0 s (omega arith) all

-- at each instant
pub all_balanced : (instants i : ℕ) (spans : List Span) → All (IsWithin instants) spans → left_open i spans + count_by (begins i) spans ≡ open_at i spans + count_by (ends_at i) spans
all_balanced instants i [] all = refl
all_balanced instants i (s ∷ spans) all =
    let one : bit (is_left i s) + bit (begins i s) ≡ bit (is_open i s) + bit (ends_at i s) = one_balanced i s.from s.until (first instants s spans all).some in
    let more : left_open i spans + count_by (begins i) spans ≡ open_at i spans + count_by (ends_at i) spans = all_balanced instants i spans (rest instants s spans all) in
    let a : left_open i (s ∷ spans) ≡ bit (is_left i s) + left_open i spans = bits (is_left i) s spans in
    let b : count_by (begins i) (s ∷ spans) ≡ bit (begins i s) + count_by (begins i) spans = bits (begins i) s spans in
    let c : open_at i (s ∷ spans) ≡ bit (is_open i s) + open_at i spans = bits (is_open i) s spans in
    let d : count_by (ends_at i) (s ∷ spans) ≡ bit (ends_at i s) + count_by (ends_at i) spans = bits (ends_at i) s spans in
    added _ _ _ _ _ _ _ _ _ _ _ _ a b c d one more
  where
    added : (l b o e x y z w l' b' o' e' : ℕ) → l ≡ x + l' → b ≡ y + b' → o ≡ z + o' → e ≡ w + e' → x + y ≡ z + w → l' + b' ≡ o' + e' → l + b ≡ o + e
    added l b o e x y z w l' b' o' e' p q r s t u = omega arith

pub all_at_most : (i : ℕ) (spans : List Span) → left_open i spans + count_by (begins i) spans ≤ length spans
all_at_most i [] = omega arith
all_at_most i (s ∷ spans) =
    added _ _ _ _ _ _ _ (bits (is_left i) s spans) (bits (begins i) s spans) (one_at_most i s.from s.until) (all_at_most i spans)
  where
    added : (l b x y l' b' n : ℕ) → l ≡ x + l' → b ≡ y + b' → x + y ≤ 1 → l' + b' ≤ n → l + b ≤ suc n
    added l b x y l' b' n p q r s = omega arith

zero_more : (n : ℕ) → 0 + n ≡ n
zero_more n = omega arith

-- nothing is open before the first instant, and what is open at one is open before the next
pub left_at_first : (spans : List Span) → left_open 0 spans ≡ 0
left_at_first [] = refl
left_at_first (s ∷ spans) =
    let no : nat_lt s.from 0 ≡ false = lt_no s.from 0 (omega arith) in
    bits (is_left 0) s spans ∙ ap (λ t. bit (t && nat_le 0 s.until) + left_open 0 spans) no ∙ zero_more (left_open 0 spans) ∙ left_at_first spans

same_bits : (p q : Span → Bool) (spans : List Span) → ((s : Span) → p s ≡ q s) → count_by p spans ≡ count_by q spans
same_bits p q [] h = refl
same_bits p q (s ∷ spans) h = bits p s spans ∙ ap (λ t. bit t + count_by p spans) (h s) ∙ ap (λ n. bit (q s) + n) (same_bits p q spans h) ∙ sym (bits q s spans)

next_left : (i : ℕ) (s : Span) → is_left (i + 1) s ≡ is_open i s
next_left i s = λ k. lower s.from k && upper s.until k
  where
    lower : (f : ℕ) → nat_lt f (i + 1) ≡ nat_le f i
    lower f = elim (three f (i + 1)) [
      | inl l ↦ lt-ltb f (i + 1) l ∙ sym (le-leb f i (omega arith))
      | inr k ↦ (let h : i + 1 ≤ f = elim k [ inl e ↦ omega (arith, e) | inr g ↦ omega arith ] in lt_no f (i + 1) h ∙ sym (le_no f i (omega arith)))
    ]

    upper : (u : ℕ) → nat_le (i + 1) u ≡ nat_lt i u
    upper u = elim (three i u) [
      | inl l ↦ le-leb (i + 1) u (omega arith) ∙ sym (lt-ltb i u l)
      | inr k ↦ (let h : u ≤ i = elim k [ inl e ↦ omega (arith, e) | inr g ↦ omega arith ] in le_no (i + 1) u (omega arith) ∙ sym (lt_no i u h))
    ]

pub left_is_open : (i : ℕ) (spans : List Span) → left_open (i + 1) spans ≡ open_at i spans
left_is_open i spans = same_bits (is_left (i + 1)) (is_open i) spans (next_left i)

-- past all instants nothing is open
pub none_past : (instants i : ℕ) (spans : List Span) → All (IsWithin instants) spans → instants ≤ i → open_at i spans ≡ 0
none_past instants i [] all h = refl
none_past instants i (s ∷ spans) all h =
    bits (is_open i) s spans ∙ ap (λ t. bit (nat_le s.from i && t) + open_at i spans) (no s (first instants s spans all)) ∙ both_off (nat_le s.from i) ∙ none_past instants i spans (rest instants s spans all) h
  where
    no : (s : Span) → IsWithin instants s → nat_lt i s.until ≡ false
    no s w = let e = w.ends in lt_no i s.until (omega arith)

    both_off : (t : Bool) → bit (t && false) + open_at i spans ≡ open_at i spans
    both_off true = zero_more (open_at i spans)
    both_off false = zero_more (open_at i spans)

-- ---- the greatest

pub none_before : (spans : List Span) → IsGreatestBefore 0 spans (record { at = 0; spans = 0 })
none_before spans = record { none = λ e. refl; there = λ h. absurd (omega arith); most = λ j h. absurd (omega arith); first = λ j h. absurd (omega arith) }

up_to : (j i : ℕ) → j < i + 1 → (j < i) ⊎ (j ≡ i)
up_to j i h = elim (three j i) [ inl l ↦ inl l | inr k ↦ elim k [ inl e ↦ inr e | inr g ↦ absurd (over g) ] ]
  where
    over : i < j → ⊥
    over g = omega arith

pub greater_now : (i count : ℕ) (spans : List Span) (m : Most) → IsGreatestBefore i spans m → count ≡ open_at i spans → m.spans < count → IsGreatestBefore (i + 1) spans (record { at = i; spans = count })
greater_now i count spans m g e h = record {
  none = λ z. absurd (some z);
  there = λ z. sym e;
  most = λ j l. elim (up_to j i l) [
    | inl k ↦ (let a = g.most j k in omega (arith, a, h))
    | inr q ↦ subst (λ n. n ≤ count) (sym (ap (λ k. open_at k spans) q)) (omega (arith, e))
  ];
  first = λ j l. let a = g.most j l in omega (arith, a, h);
}
  where
    some : count ≡ 0 → ⊥
    some z = omega (arith, z, h)

pub no_greater : (i count : ℕ) (spans : List Span) (m : Most) → IsGreatestBefore i spans m → count ≡ open_at i spans → count ≤ m.spans → IsGreatestBefore (i + 1) spans m
no_greater i count spans m g e h = record {
  none = g.none;
  there = g.there;
  most = λ j l. elim (up_to j i l) [
    | inl k ↦ g.most j k
    | inr q ↦ subst (λ n. n ≤ m.spans) (sym (ap (λ k. open_at k spans) q)) (omega (arith, e, h))
  ];
  first = g.first;
}

before_or_past : (i instants : ℕ) → (i < instants) ⊎ (instants ≤ i)
before_or_past i instants = elim (three i instants) [ inl l ↦ inl l | inr k ↦ inr (elim k [ inl e ↦ omega (arith, e) | inr g ↦ omega arith ]) ]

pub none_at_all : (instants i : ℕ) (spans : List Span) (m : Most) → All (IsWithin instants) spans → instants ≤ i → IsGreatestBefore i spans m → m.spans ≡ 0 → (j : ℕ) → open_at j spans ≡ 0
none_at_all instants i spans m all past g e j = elim (before_or_past j i) [
  | inl l ↦ (let a = g.most j l in omega (arith, a, e))
  | inr h ↦ none_past instants j spans all (omega (arith, past, h))
]

pub greatest : (instants i : ℕ) (spans : List Span) (m : Most) → All (IsWithin instants) spans → instants ≤ i → IsGreatestBefore i spans m → m.spans ≢ 0 → IsGreatest spans m
greatest instants i spans m all past g n =
    let some : 1 ≤ m.spans = omega (arith, n) in
    record {
      some = some;
      there = g.there some;
      most = λ j. elim (before_or_past j i) [
        | inl l ↦ g.most j l
        | inr h ↦ (let a = none_past instants j spans all (omega (arith, past, h)) in omega (arith, a))
      ];
      first = g.first;
    }
