-- Which elements a list of an array's elements has.
use Rattle.std.proofs.Common.{◌≡◌, ℕ, zero, suc, ◌+◌, ◌<◌, ℤ, pos, negsuc, Bool, true, false, ◌&&◌, ◌||◌, nat_eq, nat_le, nat_lt, int_le, int_lt, List, [], ◌∷◌, ◌++◌, map, Option, Some, None, Ordering, refl, sym, ap, ◌∙◌, arith}
use Rattle.std.specs.Prelude.{slice_get}
use Rattle.std.specs.List.{list_any}
use Rattle.std.proofs.lemmas.Bool.Decides.{nat_tests}
use Rattle.std.specs.Cmp.Lexicographic.{slice_cmp}
use Rattle.std.specs.declared.cmp.Ordering.TheVariants.{Less, Equal, Greater}
use Rattle.std.specs.Ordering.{is_eq, nat_cmp, int_cmp, ordering_then, eq_by_cmp}
use Rattle.affc_ast.specs.Meaning.{at_least_zero}
use Rattle.affc_ast.specs.Store.{element_cmp}
use Rattle.affc_ast.specs.Values.{is_within}
use Rattle.affc_interp.specs.Layout.{behind_each, subscripts_of, elements_of}

abbrev lists : List ℤ → List ℤ → Ordering
lists = slice_cmp int_cmp

abbrev hits : List ℤ → List (List ℤ) → Bool
hits xs yss = list_any (λ ys. is_eq (lists xs ys)) yss

-- ---- Tests

and_false : (b : Bool) → (b && false) ≡ false
and_false true = refl
and_false false = refl

any_append : {A : Type 0} (f : A → Bool) (xs ys : List A) → list_any f (xs ++ ys) ≡ (list_any f xs || list_any f ys)
any_append f [] ys = refl
any_append f (x ∷ xs) ys = elim (f x) as (λ (b : Bool). (b || list_any f (xs ++ ys)) ≡ ((b || list_any f xs) || list_any f ys)) [ true ↦ refl | false ↦ any_append f xs ys ]

both_first : (a h k : Bool) → ((a && h) || (a && k)) ≡ (a && (h || k))
both_first true h k = refl
both_first false h k = refl

both_second : (a b h : Bool) → ((a && h) || (b && h)) ≡ ((a || b) && h)
both_second true b true = refl
both_second true true false = refl
both_second true false false = refl
both_second false b h = refl

first_eq : (o p : Ordering) → is_eq (ordering_then o p) ≡ (is_eq o && is_eq p)
first_eq Less p = refl
first_eq Equal p = refl
first_eq Greater p = refl

int_eq_is : (j i : ℕ) → is_eq (int_cmp (pos j) (pos i)) ≡ nat_eq j i
int_eq_is j i = grind (arith, nat_tests)

nat_eq_is : (j i : ℕ) → is_eq (nat_cmp j i) ≡ nat_eq j i
nat_eq_is j i = grind (arith, nat_tests)

-- ---- Subscripts

row_hits : (j i : ℕ) (xs : List ℤ) (rest : List (List ℤ)) → hits (pos j ∷ xs) (map (λ ys. pos i ∷ ys) rest) ≡ (nat_eq j i && hits xs rest)
row_hits j i xs [] = sym (and_false (nat_eq j i))
row_hits j i xs (ys ∷ rest) =
    let here : is_eq (lists (pos j ∷ xs) (pos i ∷ ys)) ≡ (nat_eq j i && is_eq (lists xs ys)) = first_eq (int_cmp (pos j) (pos i)) (lists xs ys) ∙ ap (λ b. b && is_eq (lists xs ys)) (int_eq_is j i) in
    (λ k. here k || row_hits j i xs rest k) ∙ both_first (nat_eq j i) (is_eq (lists xs ys)) (hits xs rest)

abbrev in_rows : (i count j : ℕ) → Bool
in_rows i count j = nat_le i j && nat_lt j (i + count)

no_rows : (i j : ℕ) → in_rows i 0 j ≡ false
no_rows i j = grind (arith, nat_tests)

more_rows : (i c j : ℕ) → (nat_eq j i || in_rows (suc i) c j) ≡ in_rows i (suc c) j
more_rows i c j = grind (arith, nat_tests)

rows_hits : (j i c : ℕ) (xs : List ℤ) (rest : List (List ℤ)) → hits (pos j ∷ xs) (behind_each i c rest) ≡ (in_rows i c j && hits xs rest)
rows_hits j i zero xs rest = sym (ap (λ b. b && hits xs rest) (no_rows i j))
rows_hits j i (suc c) xs rest =
    any_append (λ ys. is_eq (lists (pos j ∷ xs) ys)) (map (λ ys. pos i ∷ ys) rest) (behind_each (suc i) c rest)
    ∙ (λ k. row_hits j i xs rest k || rows_hits j (suc i) c xs rest k) ∙ both_second (nat_eq j i) (in_rows (suc i) c j) (hits xs rest) ∙ ap (λ b. b && hits xs rest) (more_rows i c j)

row_misses : (m i : ℕ) (xs : List ℤ) (rest : List (List ℤ)) → hits (negsuc m ∷ xs) (map (λ ys. pos i ∷ ys) rest) ≡ false
row_misses m i xs [] = refl
row_misses m i xs (ys ∷ rest) = row_misses m i xs rest

rows_miss : (m i c : ℕ) (xs : List ℤ) (rest : List (List ℤ)) → hits (negsuc m ∷ xs) (behind_each i c rest) ≡ false
rows_miss m i zero xs rest = refl
rows_miss m i (suc c) xs rest =
    any_append (λ ys. is_eq (lists (negsuc m ∷ xs) ys)) (map (λ ys. pos i ∷ ys) rest) (behind_each (suc i) c rest) ∙ (λ k. row_misses m i xs rest k || rows_miss m (suc i) c xs rest k)

row_short : (i : ℕ) (rest : List (List ℤ)) → hits [] (map (λ ys. pos i ∷ ys) rest) ≡ false
row_short i [] = refl
row_short i (ys ∷ rest) = row_short i rest

rows_short : (i c : ℕ) (rest : List (List ℤ)) → hits [] (behind_each i c rest) ≡ false
rows_short i zero rest = refl
rows_short i (suc c) rest = any_append (λ ys. is_eq (lists [] ys)) (map (λ ys. pos i ∷ ys) rest) (behind_each (suc i) c rest) ∙ (λ k. row_short i rest k || rows_short (suc i) c rest k)

all_rows : (k j : ℕ) → in_rows 0 k j ≡ (int_le (pos 0) (pos j) && int_lt (pos j) (pos k))
all_rows k j = grind (arith, nat_tests)

none_within : (j m : ℕ) (b : Bool) → (int_le (pos 0) (pos j) && int_lt (pos j) (negsuc m) && b) ≡ false
none_within j m b = ap (λ t. t && b) (and_false (int_le (pos 0) (pos j)))

within_hits : (xs ns : List ℤ) → hits xs (subscripts_of ns) ≡ is_within xs ns
within_hits [] [] = refl
within_hits (x ∷ xs) [] = refl
within_hits [] (n ∷ ns) = rows_short 0 (at_least_zero n) (subscripts_of ns)
within_hits (negsuc m ∷ xs) (n ∷ ns) = rows_miss m 0 (at_least_zero n) xs (subscripts_of ns)
within_hits (pos j ∷ xs) (pos k ∷ ns) = rows_hits j 0 k xs (subscripts_of ns) ∙ (λ i. all_rows k j i && within_hits xs ns i)
within_hits (pos j ∷ xs) (negsuc m ∷ ns) = sym (none_within j m (is_within xs ns))

-- ---- Elements

array_hits : (a k : ℕ) (xs : List ℤ) (yss : List (List ℤ)) → list_any (eq_by_cmp element_cmp (a, xs)) (map (λ ys. (k, ys)) yss) ≡ (nat_eq a k && hits xs yss)
array_hits a k xs [] = sym (and_false (nat_eq a k))
array_hits a k xs (ys ∷ yss) =
    let here : eq_by_cmp element_cmp (a, xs) (k, ys) ≡ (nat_eq a k && is_eq (lists xs ys)) = first_eq (nat_cmp a k) (lists xs ys) ∙ ap (λ b. b && is_eq (lists xs ys)) (nat_eq_is a k) in
    (λ i. here i || array_hits a k xs yss i) ∙ both_first (nat_eq a k) (is_eq (lists xs ys)) (hits xs yss)

split_hits : (a k : ℕ) (xs ns : List ℤ) (es : List (List ℤ)) → list_any (eq_by_cmp element_cmp (a, xs)) (elements_of k (ns ∷ es)) ≡ ((nat_eq a k && is_within xs ns) || list_any (eq_by_cmp element_cmp (a, xs)) (elements_of (suc k) es))
split_hits a k xs ns es =
    any_append (eq_by_cmp element_cmp (a, xs)) (map (λ ys. (k, ys)) (subscripts_of ns)) (elements_of (suc k) es)
    ∙ ap (λ b. b || list_any (eq_by_cmp element_cmp (a, xs)) (elements_of (suc k) es)) (array_hits a k xs (subscripts_of ns) ∙ ap (λ b. nat_eq a k && b) (within_hits xs ns))

equal_not : (a k : ℕ) → a < k → nat_eq a k ≡ false
equal_not a k h = grind (arith, nat_tests)

equal_not_up : (a k : ℕ) → k < a → nat_eq a k ≡ false
equal_not_up a k h = grind (arith, nat_tests)

equal_so : (a k : ℕ) → a ≡ k → nat_eq a k ≡ true
equal_so a k h = grind (arith, nat_tests)

before_all : (a k : ℕ) (xs : List ℤ) (es : List (List ℤ)) → a < k → list_any (eq_by_cmp element_cmp (a, xs)) (elements_of k es) ≡ false
before_all a k xs [] lt = refl
before_all a k xs (ns ∷ es) lt = split_hits a k xs ns es ∙ (λ i. (equal_not a k lt i && is_within xs ns) || before_all a (suc k) xs es (omega arith) i)

abbrev pub within_at : List ℤ → Option (List ℤ) → Bool
within_at xs None = false
within_at xs (Some ns) = is_within xs ns

or_false : (b : Bool) → (b || false) ≡ b
or_false true = refl
or_false false = refl

pub element_hits : (a k j : ℕ) (xs : List ℤ) (es : List (List ℤ)) → a ≡ k + j → list_any (eq_by_cmp element_cmp (a, xs)) (elements_of k es) ≡ within_at xs (slice_get es j)
element_hits a k j xs [] e = refl
element_hits a k zero xs (ns ∷ es) e =
    split_hits a k xs ns es ∙ (λ i. (equal_so a k (omega arith) i && is_within xs ns) || before_all a (suc k) xs es (omega arith) i) ∙ or_false (is_within xs ns)
element_hits a k (suc j) xs (ns ∷ es) e =
    split_hits a k xs ns es ∙ (λ i. (equal_not_up a k (omega arith) i && is_within xs ns) || element_hits a (suc k) j xs es (omega arith) i)
