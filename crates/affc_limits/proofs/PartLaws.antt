-- Large parts, name by name.
use Rattle.std.proofs.Common.{◌≡◌, ℕ, ◌+◌, ◌*◌, ◌<◌, ◌≤◌, min, Bool, true, false, ◌||◌, cond, nat_le, nat_lt, List, [], ◌∷◌, ◌++◌, Option, Some, None, is_some, Result, IfOk, ℤ, pos, ◌+ℤ◌, ◌-ℤ◌, ◌*ℤ◌, neg_ℤ, nat_abs, ◌⊎◌, inl, inr, refl, sym, ap, ◌∙◌, subst, arith}
use Rattle.std.specs.List.{list_any}
use Rattle.std.specs.declared.alloc.AllocError.{AllocError}
use Rattle.std.proofs.lemmas.Bool.{false≢true}
use Rattle.std.proofs.lemmas.Bool.Decides.{nat_tests}
use Rattle.std.proofs.lemmas.Int.{ints, unsigned_abs-mul}
use Rattle.std.proofs.lemmas.Result.{IfOk-weaker}
use Rattle.std.proofs.Math.IntN.{zero-*ℤ, *ℤ-zero}
use Rattle.std.proofs.Math.Nat.{mul-le-mul}
use Rattle.affc_rows.proofs.IntLemmas.{abs-add}
use Rattle.affc_lex.specs.Bytes.{same}
use Rattle.affc_lex.proofs.Lists.{same_is}
use Rattle.affc_grammar.specs.Grammar as g
use Rattle.affc_grammar.specs.Grammar.{Name}
use Rattle.affc_grammar.specs.Draft as d
use Rattle.affc_grammar.specs.Limits.{at_if, names_in, constant_of, coefficient_of, first_token, is_large, large_parts}
use Rattle.affc_syntax.specs.declared.draft.draft.IxDraft as code
use Rattle.affc_syntax.specs.declared.draft.draft.IxDraft.TheVariants as c
use Rattle.affc_syntax.specs.declared.draft.draft.Choice.{Choice}
use Rattle.affc_syntax.specs.declared.draft.draft.Rounding.{Rounding}
use Rattle.affc_syntax.specs.draft.Drafts.{ix, choice, rounding}
use Rattle.affc_syntax.proofs.draft.Outs.{ix-Negated, ix-Sum, ix-Difference, ix-Product, ix-Grouped, ix-Chosen, ix-Divided}
use Rattle.affc_limits.specs.declared.parts.Form.{Form}
use Rattle.affc_limits.specs.declared.terms.Coefficients.{Coefficients}
use Rattle.affc_limits.specs.Coefficients.{number_of}
use Rattle.affc_limits.specs.Places.{least, lesser, place_if}
use Rattle.affc_limits.specs.Parts as p
use Rattle.affc_limits.specs.Parts.{IsForm}
use Rattle.affc_limits.proofs.PlaceLaws.{least-append, least_if, lesser_assoc}

-- ---- The least of two tests' places

one_inside : (t : Bool) (at : ℕ) (xs : List ℕ) → least (at_if t at ++ xs) ≡ lesser (place_if t at) (least xs)
one_inside t at xs = least-append (at_if t at) xs ∙ ap (λ o. lesser o (least xs)) (least_if t at)

two_inside : (t : Bool) (at : ℕ) (xs ys : List ℕ) → least (at_if t at ++ xs ++ ys) ≡ lesser (place_if t at) (lesser (least xs) (least ys))
two_inside t at xs ys =
    least-append (at_if t at ++ xs) ys
    ∙ ap (λ o. lesser o (least ys)) (one_inside t at xs)
    ∙ sym (lesser_assoc (place_if t at) (least xs) (least ys))

none_inside : (t : Bool) (at : ℕ) → least (at_if t at) ≡ lesser (place_if t at) None
none_inside true at = refl
none_inside false at = refl

-- ---- Names that stand in a list

abbrev IsIn : Name → List Name → Type 0
IsIn w [] = ⊥
IsIn w (v ∷ vs) = (w ≡ v) ⊎ IsIn w vs

in_left : (w : Name) (xs ys : List Name) → IsIn w xs → IsIn w (xs ++ ys)
in_left w [] ys h = absurd h
in_left w (x ∷ xs) ys (inl e) = inl e
in_left w (x ∷ xs) ys (inr m) = inr (in_left w xs ys m)

in_right : (w : Name) (xs ys : List Name) → IsIn w ys → IsIn w (xs ++ ys)
in_right w [] ys h = h
in_right w (x ∷ xs) ys h = inr (in_right w xs ys h)

any_at : (k : Name → Bool) (ws : List Name) (w : Name) → IsIn w ws → k w ≡ true → list_any k ws ≡ true
any_at k [] w h e = absurd h
any_at k (v ∷ vs) w (inl s) e = ap (λ b. b || list_any k vs) (ap k (sym s) ∙ e)
any_at k (v ∷ vs) w (inr m) e = or_true (k v) (any_at k vs w m e)
  where
    or_true : (b : Bool) → list_any k vs ≡ true → (b || list_any k vs) ≡ true
    or_true true f = refl
    or_true false f = f

any_from : (k : Name → Bool) (ws : List Name) → list_any k ws ≡ true → (w : Name) × IsIn w ws × (k w ≡ true)
any_from k [] e = absurd (false≢true e)
any_from k (v ∷ vs) e = either (k v) refl (any_from k vs) e
  where
    either : (b : Bool) → k v ≡ b → (list_any k vs ≡ true → (w : Name) × IsIn w vs × (k w ≡ true)) → (b || list_any k vs) ≡ true → (w : Name) × IsIn w (v ∷ vs) × (k w ≡ true)
    either true is later f = (v, inl refl, is)
    either false is later f = (let found = later f in (found.0, inr found.1, found.2))

both_ways : (a b : Bool) → (a ≡ true → b ≡ true) → (b ≡ true → a ≡ true) → a ≡ b
both_ways true true f h = refl
both_ways true false f h = sym (f refl)
both_ways false true f h = h refl
both_ways false false f h = refl

-- a name that an expression doesn't hold has no coefficient there
zero_or_in : (w : Name) (e : d.IxDraft) → (coefficient_of w e ≡ pos 0) ⊎ IsIn w (names_in e)
zero_or_in w (d.literal at n) = inl refl
zero_or_in w (d.name at v) = by_test (same v w) refl
  where
    by_test : (b : Bool) → same v w ≡ b → (cond b (pos 1) (pos 0) ≡ pos 0) ⊎ IsIn w (v ∷ [])
    by_test true e = inr (inl (sym (same_is v w e)))
    by_test false e = inl refl
zero_or_in w (d.negated at a) = of_one (zero_or_in w a)
  where
    of_one : (coefficient_of w a ≡ pos 0) ⊎ IsIn w (names_in a) → (neg_ℤ (coefficient_of w a) ≡ pos 0) ⊎ IsIn w (names_in a)
    of_one (inl e) = inl (ap neg_ℤ e)
    of_one (inr m) = inr m
zero_or_in w (d.sum a b) = of_two (zero_or_in w a) (zero_or_in w b)
  where
    of_two : (coefficient_of w a ≡ pos 0) ⊎ IsIn w (names_in a) → (coefficient_of w b ≡ pos 0) ⊎ IsIn w (names_in b) → (coefficient_of w a +ℤ coefficient_of w b ≡ pos 0) ⊎ IsIn w (names_in a ++ names_in b)
    of_two (inr m) q = inr (in_left w (names_in a) (names_in b) m)
    of_two (inl e) (inr m) = inr (in_right w (names_in a) (names_in b) m)
    of_two (inl e) (inl f) = inl (λ i. e i +ℤ f i)
zero_or_in w (d.difference a b) = of_two (zero_or_in w a) (zero_or_in w b)
  where
    of_two : (coefficient_of w a ≡ pos 0) ⊎ IsIn w (names_in a) → (coefficient_of w b ≡ pos 0) ⊎ IsIn w (names_in b) → (coefficient_of w a -ℤ coefficient_of w b ≡ pos 0) ⊎ IsIn w (names_in a ++ names_in b)
    of_two (inr m) q = inr (in_left w (names_in a) (names_in b) m)
    of_two (inl e) (inr m) = inr (in_right w (names_in a) (names_in b) m)
    of_two (inl e) (inl f) = inl (λ i. e i -ℤ f i)
zero_or_in w (d.product at a b) = of_two (zero_or_in w a) (zero_or_in w b)
  where
    of_two : (coefficient_of w a ≡ pos 0) ⊎ IsIn w (names_in a) → (coefficient_of w b ≡ pos 0) ⊎ IsIn w (names_in b) → ((coefficient_of w a *ℤ constant_of b) +ℤ (constant_of a *ℤ coefficient_of w b) ≡ pos 0) ⊎ IsIn w (names_in a ++ names_in b)
    of_two (inr m) q = inr (in_left w (names_in a) (names_in b) m)
    of_two (inl e) (inr m) = inr (in_right w (names_in a) (names_in b) m)
    of_two (inl e) (inl f) = inl ((λ i. (e i *ℤ constant_of b) +ℤ (constant_of a *ℤ f i)) ∙ (λ i. zero-*ℤ (constant_of b) i +ℤ *ℤ-zero (constant_of a) i))
zero_or_in w (d.grouped at a) = zero_or_in w a
zero_or_in w (d.chosen at f' a b) = inl refl
zero_or_in w (d.divided at f' a by_at by) = inl refl

abbrev coefficient_large : d.IxDraft → Name → Bool
coefficient_large a w = nat_lt 65536 (nat_abs (coefficient_of w a))

large_in : (a : d.IxDraft) (w : Name) → coefficient_large a w ≡ true → IsIn w (names_in a)
large_in a w h = of_case (zero_or_in w a)
  where
    of_case : (coefficient_of w a ≡ pos 0) ⊎ IsIn w (names_in a) → IsIn w (names_in a)
    of_case (inl e) = absurd (false≢true (sym (ap (λ z. nat_lt 65536 (nat_abs z)) e) ∙ h))
    of_case (inr m) = m

-- an expression is large where its constant is or some coefficient
pub large_is : (e : d.IxDraft) (b : Bool) → (b ≡ true → (w : Name) × (nat_lt 65536 (nat_abs (coefficient_of w e)) ≡ true)) → ((w : Name) → nat_lt 65536 (nat_abs (coefficient_of w e)) ≡ true → b ≡ true)
    → (nat_lt 16777216 (nat_abs (constant_of e)) || b) ≡ is_large e
large_is e b there back =
    ap (λ x. nat_lt 16777216 (nat_abs (constant_of e)) || x) (
    both_ways b (list_any (coefficient_large e) (names_in e))
    (λ t. let f = there t in any_at (coefficient_large e) (names_in e) f.0 (large_in e f.0 f.1) f.1)
    (λ t. let f = any_from (coefficient_large e) (names_in e) t in back f.0 f.2)
    )

-- ---- Sizes

record Settled (e : d.IxDraft) (n : ℕ) : Type 0 where
  none : large_parts e ≡ []
  within : n ≤ 65536
  bound : (w : Name) → nat_abs (constant_of e) + nat_abs (coefficient_of w e) ≤ n

none_of : (k : Name → Bool) → ((w : Name) → k w ≡ false) → (ws : List Name) → list_any k ws ≡ false
none_of k h [] = refl
none_of k h (w ∷ ws) = ap (λ b. b || list_any k ws) (h w) ∙ none_of k h ws

not_above : (limit n : ℕ) → n ≤ limit → nat_lt limit n ≡ false
not_above limit n h = grind (arith, nat_tests)

none_here : (e : d.IxDraft) (n : ℕ) → n ≤ 65536 → ((w : Name) → nat_abs (constant_of e) + nat_abs (coefficient_of w e) ≤ n) → is_large e ≡ false
none_here e n le h =
    let c : nat_abs (constant_of e) ≤ 16777216 = omega (arith, h []) in
    (λ i. not_above 16777216 (nat_abs (constant_of e)) c i || list_any (coefficient_large e) (names_in e))
    ∙ none_of (coefficient_large e) (λ w. not_above 65536 (nat_abs (coefficient_of w e)) (omega (arith, h w))) (names_in e)

small_is : (n m : ℕ) → p.small n ≡ Some m → (n ≡ m) × (m ≤ 65536)
small_is n m e = by_test (nat_le n 65536) refl e
  where
    by_test : (b : Bool) → nat_le n 65536 ≡ b → cond b (Some n) None ≡ Some m → (n ≡ m) × (m ≤ 65536)
    by_test true t f = (let s : n ≡ m = cc in (s, grind (arith, nat_tests)))
    by_test false t f = absurd (cc)

record Both (o q : Option ℕ) (made : ℕ → ℕ → ℕ) (n : ℕ) : Type 0 where
  first : ℕ
  second : ℕ
  first_is : o ≡ Some first
  second_is : q ≡ Some second
  is : made first second ≡ n
  within : n ≤ 65536

sum_is : (o q : Option ℕ) (n : ℕ) → p.size_of_sum o q ≡ Some n → Both o q ◌+◌ n
sum_is None q n e = absurd (cc)
sum_is (Some x) None n e = absurd (cc)
sum_is (Some x) (Some y) n e = let s = small_is (x + y) n e in record { first = x; second = y; first_is = refl; second_is = refl; is = s.0; within = s.1 }

product_is : (o q : Option ℕ) (n : ℕ) → p.size_of_product o q ≡ Some n → Both o q ◌*◌ n
product_is None q n e = absurd (cc)
product_is (Some x) None n e = absurd (cc)
product_is (Some x) (Some y) n e = let s = small_is (x * y) n e in record { first = x; second = y; first_is = refl; second_is = refl; is = s.0; within = s.1 }

choice_is : (o q : Option ℕ) (n : ℕ) → p.size_of_choice o q ≡ Some n → Both o q (λ x y. 0) n
choice_is None q n e = absurd (cc)
choice_is (Some x) None n e = absurd (cc)
choice_is (Some x) (Some y) n e = let s : 0 ≡ n = cc in record { first = x; second = y; first_is = refl; second_is = refl; is = s; within = omega (arith, s) }

abs-neg : (z : ℤ) → nat_abs (neg_ℤ z) ≡ nat_abs z
abs-neg z = omega (arith, ints)

product_bound : (c k c' k' : ℤ) (n m : ℕ) → nat_abs c + nat_abs k ≤ n → nat_abs c' + nat_abs k' ≤ m → nat_abs (c *ℤ c') + nat_abs ((k *ℤ c') +ℤ (c *ℤ k')) ≤ n * m
product_bound c k c' k' n m h l =
    let e = unsigned_abs-mul c c' in
    let f = unsigned_abs-mul k c' in
    let g = unsigned_abs-mul c k' in
    let a = abs-add (k *ℤ c') (c *ℤ k') in
    let top : (nat_abs c + nat_abs k) * (nat_abs c' + nat_abs k') ≤ n * m = mul-le-mul h l in
    omega (arith, e, f, g, a, top)

here_none : (e : d.IxDraft) (n : ℕ) (at : ℕ) → n ≤ 65536 → ((w : Name) → nat_abs (constant_of e) + nat_abs (coefficient_of w e) ≤ n) → at_if (is_large e) at ≡ []
here_none e n at le h = ap (λ b. at_if b at) (none_here e n le h)

settled : (e : d.IxDraft) (n : ℕ) → p.size e ≡ Some n → Settled e n
settled (d.literal at v) n e =
    let s = small_is v n e in
    let h : (w : Name) → v + 0 ≤ n = λ w. omega (arith, s.0) in
    record { none = here_none (d.literal at v) n at s.1 h; within = s.1; bound = h }
settled (d.name at v) n e =
    let one : 1 ≡ n = cc in
    let le : n ≤ 65536 = omega (arith, one) in
    let h : (w : Name) → 0 + nat_abs (coefficient_of w (d.name at v)) ≤ n = λ w. by_test (same v w) n one in
    record { none = here_none (d.name at v) n at le h; within = le; bound = h }
  where
    by_test : (b : Bool) (n : ℕ) → 1 ≡ n → 0 + nat_abs (cond b (pos 1) (pos 0)) ≤ n
    by_test true n e = omega (arith, e)
    by_test false n e = omega (arith, e)
settled (d.negated at a) n e =
    let s = settled a n e in
    let h : (w : Name) → nat_abs (neg_ℤ (constant_of a)) + nat_abs (neg_ℤ (coefficient_of w a)) ≤ n = λ w. omega (arith, abs-neg (constant_of a), abs-neg (coefficient_of w a), s.bound w) in
    record { none = (λ i. here_none (d.negated at a) n at s.within h i ++ s.none i); within = s.within; bound = h }
settled (d.sum a b) n e =
    let t = sum_is (p.size a) (p.size b) n e in
    let s = settled a t.first t.first_is in
    let u = settled b t.second t.second_is in
    let h : (w : Name) → nat_abs (constant_of a +ℤ constant_of b) + nat_abs (coefficient_of w a +ℤ coefficient_of w b) ≤ n =
    λ w. omega (arith, abs-add (constant_of a) (constant_of b), abs-add (coefficient_of w a) (coefficient_of w b), s.bound w, u.bound w, t.is) in
    record { none = (λ i. here_none (d.sum a b) n (first_token a) t.within h i ++ s.none i ++ u.none i); within = t.within; bound = h }
settled (d.difference a b) n e =
    let t = sum_is (p.size a) (p.size b) n e in
    let s = settled a t.first t.first_is in
    let u = settled b t.second t.second_is in
    let h : (w : Name) → nat_abs (constant_of a -ℤ constant_of b) + nat_abs (coefficient_of w a -ℤ coefficient_of w b) ≤ n =
    λ w. omega (arith, abs-add (constant_of a) (neg_ℤ (constant_of b)), abs-neg (constant_of b), abs-add (coefficient_of w a) (neg_ℤ (coefficient_of w b)), abs-neg (coefficient_of w b), s.bound w, u.bound w, t.is) in
    record { none = (λ i. here_none (d.difference a b) n (first_token a) t.within h i ++ s.none i ++ u.none i); within = t.within; bound = h }
settled (d.product at a b) n e =
    let t = product_is (p.size a) (p.size b) n e in
    let s = settled a t.first t.first_is in
    let u = settled b t.second t.second_is in
    let h : (w : Name) → nat_abs (constant_of a *ℤ constant_of b) + nat_abs ((coefficient_of w a *ℤ constant_of b) +ℤ (constant_of a *ℤ coefficient_of w b)) ≤ n =
    λ w. subst (λ m. nat_abs (constant_of a *ℤ constant_of b) + nat_abs ((coefficient_of w a *ℤ constant_of b) +ℤ (constant_of a *ℤ coefficient_of w b)) ≤ m) t.is (product_bound (constant_of a) (coefficient_of w a) (constant_of b) (coefficient_of w b) t.first t.second (s.bound w) (u.bound w)) in
    record { none = (λ i. here_none (d.product at a b) n (first_token a) t.within h i ++ s.none i ++ u.none i); within = t.within; bound = h }
settled (d.grouped at a) n e =
    let s = settled a n e in
    record { none = (λ i. here_none (d.grouped at a) n at s.within s.bound i ++ s.none i); within = s.within; bound = s.bound }
settled (d.chosen at f' a b) n e =
    let t = choice_is (p.size a) (p.size b) n e in
    let s = settled a t.first t.first_is in
    let u = settled b t.second t.second_is in
    record { none = (λ i. s.none i ++ u.none i); within = t.within; bound = λ w. omega (arith, t.is) }
settled (d.divided at f' a by_at by) n e =
    let t = choice_is (p.size a) (Some 0) n e in
    let s = settled a t.first t.first_is in
    record { none = s.none; within = t.within; bound = λ w. omega (arith, t.is) }

-- where there is a small size, no part is large
pub none_large : (e : d.IxDraft) → is_some (p.size e) ≡ true → least (large_parts e) ≡ None
none_large e h = by_size (p.size e) refl h
  where
    by_size : (o : Option ℕ) → p.size e ≡ o → is_some o ≡ true → least (large_parts e) ≡ None
    by_size None is k = absurd (false≢true k)
    by_size (Some n) is k = let s = settled e n is in ap least s.none

-- ---- By nodes

pub past-literal : (at n : ℕ) → lesser (place_if (is_large (d.literal at n)) at) None ≡ least (large_parts (d.literal at n))
past-literal at n = sym (none_inside (is_large (d.literal at n)) at)

pub past-name : (at : ℕ) (w : Name) → lesser (place_if (is_large (d.name at w)) at) None ≡ least (large_parts (d.name at w))
past-name at w = sym (none_inside (is_large (d.name at w)) at)

pub past-negated : (at : ℕ) (a : d.IxDraft) → lesser (place_if (is_large (d.negated at a)) at) (least (large_parts a)) ≡ least (large_parts (d.negated at a))
past-negated at a = sym (one_inside (is_large (d.negated at a)) at (large_parts a))

pub past-grouped : (at : ℕ) (a : d.IxDraft) → lesser (place_if (is_large (d.grouped at a)) at) (least (large_parts a)) ≡ least (large_parts (d.grouped at a))
past-grouped at a = sym (one_inside (is_large (d.grouped at a)) at (large_parts a))

pub past-sum : (a b : d.IxDraft) → lesser (place_if (is_large (d.sum a b)) (first_token a)) (lesser (least (large_parts a)) (least (large_parts b))) ≡ least (large_parts (d.sum a b))
past-sum a b = sym (two_inside (is_large (d.sum a b)) (first_token a) (large_parts a) (large_parts b))

pub past-difference : (a b : d.IxDraft) → lesser (place_if (is_large (d.difference a b)) (first_token a)) (lesser (least (large_parts a)) (least (large_parts b))) ≡ least (large_parts (d.difference a b))
past-difference a b = sym (two_inside (is_large (d.difference a b)) (first_token a) (large_parts a) (large_parts b))

pub past-product : (at : ℕ) (a b : d.IxDraft) → lesser (place_if (is_large (d.product at a b)) (first_token a)) (lesser (least (large_parts a)) (least (large_parts b))) ≡ least (large_parts (d.product at a b))
past-product at a b = sym (two_inside (is_large (d.product at a b)) (first_token a) (large_parts a) (large_parts b))

pub past-chosen : (at : ℕ) (f : g.Choice) (a b : d.IxDraft) → lesser (least (large_parts a)) (least (large_parts b)) ≡ least (large_parts (d.chosen at f a b))
past-chosen at f a b = sym (least-append (large_parts a) (large_parts b))

pub minus_is : (a b : ℤ) → a +ℤ neg_ℤ b ≡ a -ℤ b
minus_is a b = omega (arith, ints)

-- of two parts, the first of which begins the whole
pub past_of_two : (e x y : d.IxDraft) (a b : Form) (inside : Option ℕ) → IsForm x a → IsForm y b → inside ≡ lesser a.past b.past
    → lesser (place_if (is_large e) a.first) inside ≡ lesser (place_if (is_large e) (first_token x)) (lesser (least (large_parts x)) (least (large_parts y)))
past_of_two e x y a b inside f g is =
    ap (λ n. lesser (place_if (is_large e) n) inside) f.has.first_is
    ∙ ap (lesser (place_if (is_large e) (first_token x))) (is ∙ (λ i. lesser (f.past i) (g.past i)))

-- ---- In the code's results

pub ok_are : (r : Result Coefficients AllocError) (f h : Name → ℤ) → IfOk r (λ k. (w : Name) → number_of k w ≡ f w) → ((w : Name) → f w ≡ h w) → IfOk r (λ k. (w : Name) → number_of k w ≡ h w)
ok_are r f h is e = IfOk-weaker r (λ k. (w : Name) → number_of k w ≡ f w) (λ k. (w : Name) → number_of k w ≡ h w) (λ k p w. p w ∙ e w) is

pub of_negated : (x : code.IxDraft) (at : ℕ) (a b : code.IxDraft) (r : Result Form AllocError) → x ≡ c.Negated at a → b ≡ a → IfOk r (IsForm (d.negated at (ix b))) → IfOk r (IsForm (ix x))
of_negated x at a b r is s h = subst (λ e. IfOk r (IsForm e)) (ap (λ y. d.negated at (ix y)) s ∙ sym (ap ix is ∙ ix-Negated at a)) h

pub of_grouped : (x : code.IxDraft) (at : ℕ) (a b : code.IxDraft) (r : Result Form AllocError) → x ≡ c.Grouped at a → b ≡ a → IfOk r (IsForm (d.grouped at (ix b))) → IfOk r (IsForm (ix x))
of_grouped x at a b r is s h = subst (λ e. IfOk r (IsForm e)) (ap (λ y. d.grouped at (ix y)) s ∙ sym (ap ix is ∙ ix-Grouped at a)) h

pub of_divided : (x : code.IxDraft) (at : ℕ) (k : Rounding) (a : code.IxDraft) (by_at by : ℕ) (b : code.IxDraft) (r : Result Form AllocError) → x ≡ c.Divided at k a by_at by → b ≡ a → IfOk r (IsForm (d.divided at (rounding k) (ix b) by_at by)) → IfOk r (IsForm (ix x))
of_divided x at k a by_at by b r is s h = subst (λ e. IfOk r (IsForm e)) (ap (λ y. d.divided at (rounding k) (ix y) by_at by) s ∙ sym (ap ix is ∙ ix-Divided at k a by_at by)) h

pub of_sum : (x a b a' b' : code.IxDraft) (r : Result Form AllocError) → x ≡ c.Sum a b → a' ≡ a → b' ≡ b → IfOk r (IsForm (d.sum (ix a') (ix b'))) → IfOk r (IsForm (ix x))
of_sum x a b a' b' r is s t h = subst (λ e. IfOk r (IsForm e)) ((λ i. d.sum (ix (s i)) (ix (t i))) ∙ sym (ap ix is ∙ ix-Sum a b)) h

pub of_difference : (x a b a' b' : code.IxDraft) (r : Result Form AllocError) → x ≡ c.Difference a b → a' ≡ a → b' ≡ b → IfOk r (IsForm (d.difference (ix a') (ix b'))) → IfOk r (IsForm (ix x))
of_difference x a b a' b' r is s t h = subst (λ e. IfOk r (IsForm e)) ((λ i. d.difference (ix (s i)) (ix (t i))) ∙ sym (ap ix is ∙ ix-Difference a b)) h

pub of_product : (x : code.IxDraft) (at : ℕ) (a b a' b' : code.IxDraft) (r : Result Form AllocError) → x ≡ c.Product at a b → a' ≡ a → b' ≡ b → IfOk r (IsForm (d.product at (ix a') (ix b'))) → IfOk r (IsForm (ix x))
of_product x at a b a' b' r is s t h = subst (λ e. IfOk r (IsForm e)) ((λ i. d.product at (ix (s i)) (ix (t i))) ∙ sym (ap ix is ∙ ix-Product at a b)) h

pub of_chosen : (x : code.IxDraft) (at : ℕ) (k : Choice) (a b a' b' : code.IxDraft) (r : Result Form AllocError) → x ≡ c.Chosen at k a b → a' ≡ a → b' ≡ b → IfOk r (IsForm (d.chosen at (choice k) (ix a') (ix b'))) → IfOk r (IsForm (ix x))
of_chosen x at k a b a' b' r is s t h = subst (λ e. IfOk r (IsForm e)) ((λ i. d.chosen at (choice k) (ix (s i)) (ix (t i))) ∙ sym (ap ix is ∙ ix-Chosen at k a b)) h

-- ---- Nodes

abbrev pub nodes : d.IxDraft → ℕ
nodes (d.literal at n) = 1
nodes (d.name at w) = 1
nodes (d.negated at a) = 1 + nodes a
nodes (d.sum a b) = 1 + nodes a + nodes b
nodes (d.difference a b) = 1 + nodes a + nodes b
nodes (d.product at a b) = 1 + nodes a + nodes b
nodes (d.grouped at a) = 1 + nodes a
nodes (d.chosen at f a b) = 1 + nodes a + nodes b
nodes (d.divided at f a by_at by) = 1 + nodes a

abbrev nodes_in : code.IxDraft → ℕ
nodes_in x = nodes (ix x)

-- fewer nodes are in an operand than in the whole, and in both operands
fewer : (n m k : ℕ) → n ≡ 1 + m → k ≡ m → k < n
fewer n m k e f = omega (arith, e, f)

fewer_in_both : (n l r l' r' : ℕ) → n ≡ 1 + l + r → l' ≡ l → r' ≡ r → l' + r' < n
fewer_in_both n l r l' r' e f h = omega (arith, e, f, h)

pub fewer-Negated : (x : code.IxDraft) (at : ℕ) (a b : code.IxDraft) → x ≡ c.Negated at a → b ≡ a → nodes (ix b) < nodes (ix x)
fewer-Negated x at a b is s = fewer _ _ _ (ap nodes_in is ∙ ap nodes (ix-Negated at a)) (ap nodes_in s)

pub fewer-Grouped : (x : code.IxDraft) (at : ℕ) (a b : code.IxDraft) → x ≡ c.Grouped at a → b ≡ a → nodes (ix b) < nodes (ix x)
fewer-Grouped x at a b is s = fewer _ _ _ (ap nodes_in is ∙ ap nodes (ix-Grouped at a)) (ap nodes_in s)

pub fewer-Divided : (x : code.IxDraft) (at : ℕ) (k : Rounding) (a : code.IxDraft) (by_at by : ℕ) (b : code.IxDraft) → x ≡ c.Divided at k a by_at by → b ≡ a → nodes (ix b) < nodes (ix x)
fewer-Divided x at k a by_at by b is s = fewer _ _ _ (ap nodes_in is ∙ ap nodes (ix-Divided at k a by_at by)) (ap nodes_in s)

pub fewer-Sum : (x : code.IxDraft) (a b a' b' : code.IxDraft) → x ≡ c.Sum a b → a' ≡ a → b' ≡ b → nodes (ix a') + nodes (ix b') < nodes (ix x)
fewer-Sum x a b a' b' is s t = fewer_in_both _ _ _ _ _ (ap nodes_in is ∙ ap nodes (ix-Sum a b)) (ap nodes_in s) (ap nodes_in t)

pub fewer-Difference : (x : code.IxDraft) (a b a' b' : code.IxDraft) → x ≡ c.Difference a b → a' ≡ a → b' ≡ b → nodes (ix a') + nodes (ix b') < nodes (ix x)
fewer-Difference x a b a' b' is s t = fewer_in_both _ _ _ _ _ (ap nodes_in is ∙ ap nodes (ix-Difference a b)) (ap nodes_in s) (ap nodes_in t)

pub fewer-Product : (x : code.IxDraft) (at : ℕ) (a b a' b' : code.IxDraft) → x ≡ c.Product at a b → a' ≡ a → b' ≡ b → nodes (ix a') + nodes (ix b') < nodes (ix x)
fewer-Product x at a b a' b' is s t = fewer_in_both _ _ _ _ _ (ap nodes_in is ∙ ap nodes (ix-Product at a b)) (ap nodes_in s) (ap nodes_in t)

pub fewer-Chosen : (x : code.IxDraft) (at : ℕ) (k : Choice) (a b a' b' : code.IxDraft) → x ≡ c.Chosen at k a b → a' ≡ a → b' ≡ b → nodes (ix a') + nodes (ix b') < nodes (ix x)
fewer-Chosen x at k a b a' b' is s t = fewer_in_both _ _ _ _ _ (ap nodes_in is ∙ ap nodes (ix-Chosen at k a b)) (ap nodes_in s) (ap nodes_in t)

-- ---- Behind a place that was found

pub lesser-none : (a : Option ℕ) → lesser a None ≡ a
lesser-none None = refl
lesser-none (Some n) = refl

abbrev AllFrom : ℕ → List ℕ → Type 0
AllFrom n [] = Unit
AllFrom n (m ∷ ms) = (n ≤ m) × AllFrom n ms

from_later : (k n : ℕ) (ms : List ℕ) → k ≤ n → AllFrom n ms → AllFrom k ms
from_later k n [] h a = tt
from_later k n (m ∷ ms) h a = (let l = a.0 in omega (arith, l), from_later k n ms h a.1)

from_both : (n : ℕ) (xs ys : List ℕ) → AllFrom n xs → AllFrom n ys → AllFrom n (xs ++ ys)
from_both n [] ys a b = b
from_both n (x ∷ xs) ys a b = (a.0, from_both n xs ys a.1 b)

from_if : (n : ℕ) (t : Bool) (at : ℕ) → n ≤ at → AllFrom n (at_if t at)
from_if n true at h = (h, tt)
from_if n false at h = tt

first_from : (e : d.IxDraft) → p.least_token e ≤ first_token e
first_from (d.literal at n) = omega arith
first_from (d.name at w) = omega arith
first_from (d.negated at a) = omega arith
first_from (d.sum a b) = omega (arith, first_from a)
first_from (d.difference a b) = omega (arith, first_from a)
first_from (d.product at a b) = omega (arith, first_from a)
first_from (d.grouped at a) = omega arith
first_from (d.chosen at f' a b) = omega arith
first_from (d.divided at f' a by_at by) = omega arith

-- of a part that begins there, and of those inside
from_one : (n : ℕ) (t : Bool) (at k : ℕ) (xs : List ℕ) → n ≤ at → n ≤ k → AllFrom k xs → AllFrom n (at_if t at ++ xs)
from_one n t at k xs h l a = from_both n (at_if t at) xs (from_if n t at h) (from_later n k xs l a)

from_two : (n : ℕ) (t : Bool) (at k m : ℕ) (xs ys : List ℕ) → n ≤ at → n ≤ k → n ≤ m → AllFrom k xs → AllFrom m ys → AllFrom n (at_if t at ++ xs ++ ys)
from_two n t at k m xs ys h l j a b = from_both n (at_if t at ++ xs) ys (from_one n t at k xs h l a) (from_later n m ys j b)

parts_from : (e : d.IxDraft) → AllFrom (p.least_token e) (large_parts e)
parts_from (d.literal at n) = from_if at (is_large (d.literal at n)) at (omega arith)
parts_from (d.name at w) = from_if at (is_large (d.name at w)) at (omega arith)
parts_from (d.negated at a) = from_one (min at (p.least_token a)) (is_large (d.negated at a)) at (p.least_token a) (large_parts a) (omega arith) (omega arith) (parts_from a)
parts_from (d.sum a b) = from_two (min (p.least_token a) (p.least_token b)) (is_large (d.sum a b)) (first_token a) (p.least_token a) (p.least_token b) (large_parts a) (large_parts b) (omega (arith, first_from a)) (omega arith) (omega arith) (parts_from a) (parts_from b)
parts_from (d.difference a b) = from_two (min (p.least_token a) (p.least_token b)) (is_large (d.difference a b)) (first_token a) (p.least_token a) (p.least_token b) (large_parts a) (large_parts b) (omega (arith, first_from a)) (omega arith) (omega arith) (parts_from a) (parts_from b)
parts_from (d.product at a b) = from_two (min (p.least_token a) (p.least_token b)) (is_large (d.product at a b)) (first_token a) (p.least_token a) (p.least_token b) (large_parts a) (large_parts b) (omega (arith, first_from a)) (omega arith) (omega arith) (parts_from a) (parts_from b)
parts_from (d.grouped at a) = from_one (min at (p.least_token a)) (is_large (d.grouped at a)) at (p.least_token a) (large_parts a) (omega arith) (omega arith) (parts_from a)
parts_from (d.chosen at f' a b) =
    let n = min at (min (p.least_token a) (p.least_token b)) in
    from_both n (large_parts a) (large_parts b) (from_later n (p.least_token a) (large_parts a) (omega arith) (parts_from a)) (from_later n (p.least_token b) (large_parts b) (omega arith) (parts_from b))
parts_from (d.divided at f' a by_at by) = from_later (min at (p.least_token a)) (p.least_token a) (large_parts a) (omega arith) (parts_from a)

found_before : (n k : ℕ) (ms : List ℕ) → n ≤ k → AllFrom k ms → lesser (Some n) (least ms) ≡ Some n
found_before n k [] h a = refl
found_before n k (m ∷ ms) h a =
    let l : n ≤ m = (let b = a.0 in omega (arith, b)) in
    lesser_assoc (Some n) (Some m) (least ms)
    ∙ ap (λ o. lesser o (least ms)) (kept n m l)
    ∙ found_before n k ms h a.1
  where
    kept : (n m : ℕ) → n ≤ m → lesser (Some n) (Some m) ≡ Some n
    kept n m h = grind (arith, nat_tests)

-- an expression that begins behind a place has no part before it
pub none_before : (before : Option ℕ) (e : d.IxDraft) → p.is_found_by before (p.least_token e) ≡ true → before ≡ lesser before (least (large_parts e))
none_before None e h = absurd (false≢true h)
none_before (Some n) e h = sym (found_before n (p.least_token e) (large_parts e) (within n (p.least_token e) h) (parts_from e))
  where
    within : (n m : ℕ) → nat_le n m ≡ true → n ≤ m
    within n m h = grind (arith, nat_tests)
