-- Entries of lists, and what tests of numbers say.
use Rattle.std.proofs.Common.{◌≡◌, ℕ, zero, suc, ◌+◌, ◌-◌, ◌<◌, ◌≤◌, ℤ, pos, negsuc, neg_ℤ, ◌+ℤ◌, ◌≤ℤ◌, ◌<ℤ◌, Bool, true, false, true≢false, IsTrue, cond, if◌then◌else◌, int_le, int_lt, List, [], ◌∷◌, ◌++◌, length, map, take, drop, get_or, Some, refl, sym, ap, subst, ◌∙◌, ◌⊎◌, inl, inr, arith, rules}
use Rattle.std.specs.Prelude.{◌&&◌, slice_get, unsigned_abs}
use Rattle.std.specs.declared.cmp.Ordering.TheVariants as ord
use Rattle.std.specs.Ordering.{int_cmp}
use Rattle.std.specs.List.{All}
use Rattle.std.proofs.lemmas.Int.{ints}
use Rattle.std.proofs.lemmas.List.{take_all}
use Rattle.std.proofs.lemmas.List.Elements.{All-head, All-tail}
use Rattle.std.proofs.lemmas.Option.{none-some, same_Some}
use Rattle.affc_trace.specs.Law.{IsIn}

-- ---- Tests

pub both_true : (a b : Bool) → a && b ≡ true → (a ≡ true) × (b ≡ true)
both_true true b e = (refl, e)
both_true false b e = absurd (true≢false (sym e))

pub true_both : (a b : Bool) → a ≡ true → b ≡ true → a && b ≡ true
true_both true b e f = f
true_both false b e f = e

le_case : (x y : ℤ) (b : Bool) → int_le x y ≡ b → x ≤ℤ y → b ≡ true
le_case x y true e h = refl
le_case x y false e h = absurd (first_of (omega (arith, ints), omega (arith, ints, e), grind (arith, ints, e, h)))

lt_case : (x y : ℤ) (b : Bool) → int_lt x y ≡ b → x <ℤ y → b ≡ true
lt_case x y true e h = refl
lt_case x y false e h = absurd (first_of (omega (arith, ints), omega (arith, ints, e), grind (arith, ints, e, h)))

pub le_true : (x y : ℤ) → x ≤ℤ y → int_le x y ≡ true
le_true x y h = le_case x y (int_le x y) refl h

pub true_le : (x y : ℤ) → int_le x y ≡ true → x ≤ℤ y
true_le x y h = first_of (omega (arith, ints, h), grind (arith, ints, h), search (rules, h))

pub lt_true : (x y : ℤ) → x <ℤ y → int_lt x y ≡ true
lt_true x y h = lt_case x y (int_lt x y) refl h

pub true_lt : (x y : ℤ) → int_lt x y ≡ true → x <ℤ y
true_lt x y h = first_of (omega (arith, ints, h), grind (arith, ints, h), search (rules, h))

-- ---- Numbers

pub neg_size : (z : ℤ) → unsigned_abs (neg_ℤ z) ≡ unsigned_abs z
neg_size (pos zero) = refl
neg_size (pos (suc n)) = refl
neg_size (negsuc n) = refl

pub int_less : (x y : ℤ) → int_cmp x y ≡ ord.Less → (x +ℤ pos 1) ≤ℤ y
int_less x y h = chosen (int_lt x y) refl h
  where
    below : (x y : ℤ) → int_lt x y ≡ true → (x +ℤ pos 1) ≤ℤ y
    below x y e = grind (arith, ints)

    other : (u : Bool) → cond u ord.Greater ord.Equal ≡ ord.Less → ⊥
    other true h = cc
    other false h = cc

    chosen : (t : Bool) → int_lt x y ≡ t → cond t ord.Less (cond (int_lt y x) ord.Greater ord.Equal) ≡ ord.Less → (x +ℤ pos 1) ≤ℤ y
    chosen true e h = below x y e
    chosen false e h = absurd (other (int_lt y x) h)

pub less_int : (x y : ℤ) → (x +ℤ pos 1) ≤ℤ y → int_cmp x y ≡ ord.Less
less_int x y h = ap (λ t. cond t ord.Less (cond (int_lt y x) ord.Greater ord.Equal)) (below x y h)
  where
    below : (x y : ℤ) → (x +ℤ pos 1) ≤ℤ y → int_lt x y ≡ true
    below x y e = grind (arith, ints)

-- ---- Entries

pub from_append : {A : Type 0} (xs ys : List A) (m : ℕ) (a : A) → slice_get (xs ++ ys) m ≡ Some a → (slice_get xs m ≡ Some a) ⊎ ((n : ℕ) × (m ≡ length xs + n) × (slice_get ys n ≡ Some a))
from_append [] ys m a e = inr (m, omega arith, e)
from_append (x ∷ xs) ys zero a e = inl e
from_append (x ∷ xs) ys (suc m) a e = elim (from_append xs ys m a e) [ inl h ↦ inl h | inr h ↦ inr (h.0, (let q : m ≡ length xs + h.0 = h.1 in omega arith), h.2) ]

pub from_map : {A B : Type 0} (f : A → B) (xs : List A) (m : ℕ) (b : B) → slice_get (map f xs) m ≡ Some b → (a : A) × (slice_get xs m ≡ Some a) × (b ≡ f a)
from_map f [] m b e = absurd (none-some b e)
from_map f (x ∷ xs) zero b e = (x, refl, sym (same_Some (f x) b e))
from_map f (x ∷ xs) (suc m) b e = from_map f xs m b e

pub to_mapped : {A B : Type 0} (f : A → B) (xs : List A) (m : ℕ) (a : A) → slice_get xs m ≡ Some a → slice_get (map f xs) m ≡ Some (f a)
to_mapped f [] m a e = absurd (none-some a e)
to_mapped f (x ∷ xs) zero a e = ap (λ b. Some (f b)) (same_Some x a e)
to_mapped f (x ∷ xs) (suc m) a e = to_mapped f xs m a e

pub length_map : {A B : Type 0} (f : A → B) (xs : List A) → length (map f xs) ≡ length xs
length_map f [] = refl
length_map f (x ∷ xs) = ap suc (length_map f xs)

pub length_push : (xs : List ℤ) (y : ℤ) → length (xs ++ y ∷ []) ≡ suc (length xs)
length_push [] y = refl
length_push (x ∷ xs) y = ap suc (length_push xs y)

pub at_seam : (names : List ℤ) (x : ℤ) (xs : List ℤ) → get_or (names ++ x ∷ xs) (length names) (pos 0) ≡ x
at_seam [] x xs = refl
at_seam (n ∷ names) x xs = at_seam names x xs

-- the tail of a slice, as a pattern takes it
pub tail_is : {A : Type 0} (xs : List A) (d : A) → 1 ≤ length xs → xs ≡ get_or xs 0 d ∷ take (length xs - 1) (drop 1 xs)
tail_is [] d h = absurd (omega arith)
tail_is (x ∷ xs) d h = ap (λ zs. x ∷ zs) (sym (take_all (suc (length xs) - 1) xs (omega arith)))

-- a list as its first entry and the others
pub first_and_rest : {A : Type 0} (xs : List A) (x : A) → 1 ≤ length xs → x ≡ get_or xs 0 x → xs ≡ x ∷ take (length xs - 1) (drop 1 xs)
first_and_rest xs x h e = tail_is xs x h ∙ ap (λ y. y ∷ take (length xs - 1) (drop 1 xs)) (sym e)

-- ---- Members

pub in_all : {A : Type 0} (P : A → Type 0) (xs : List A) (x : A) → All P xs → IsIn x xs → P x
in_all P [] x h i = absurd i
in_all P (y ∷ xs) x h (inl e) = subst P (sym e) (All-head P y xs h)
in_all P (y ∷ xs) x h (inr i) = in_all P xs x (All-tail P y xs h) i

pub in_if : {A : Type 0} (t : Bool) (xs : List A) (a : A) → IsIn a (if t then xs else []) → IsTrue t × IsIn a xs
in_if true xs a i = (refl, i)
in_if false xs a i = absurd i

pub to_if : {A : Type 0} (t : Bool) (xs : List A) (a : A) → IsTrue t → IsIn a xs → IsIn a (if t then xs else [])
to_if true xs a t i = i
to_if false xs a t i = absurd (cc)

-- where a member of a list stands
pub place_of : {A : Type 0} (xs : List A) (a : A) → IsIn a xs → (k : ℕ) × (slice_get xs k ≡ Some a)
place_of [] a i = absurd i
place_of (x ∷ xs) a (inl e) = (0, ap (λ y. Some y) (sym e))
place_of (x ∷ xs) a (inr i) = let r = place_of xs a i in (suc r.0, r.1)

pub stands_in : {A : Type 0} (xs : List A) (k : ℕ) (a : A) → slice_get xs k ≡ Some a → IsIn a xs
stands_in [] k a e = absurd (none-some a e)
stands_in (x ∷ xs) zero a e = inl (sym (same_Some x a e))
stands_in (x ∷ xs) (suc k) a e = inr (stands_in xs k a e)

pub there_is : {A : Type 0} (xs : List A) (k : ℕ) → k < length xs → (a : A) × (slice_get xs k ≡ Some a)
there_is [] k h = absurd (omega arith)
there_is (x ∷ xs) zero h = (x, refl)
there_is (x ∷ xs) (suc k) h = there_is xs k (omega arith)
