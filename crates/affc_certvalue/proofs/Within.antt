-- What has nothing wrong: numbers, forms and lists within their limits, and no others.
use Rattle.affc_certvalue.specs.Limits.{IsWord, FitsForm, AreSmall, IsSmall}
use Rattle.affc_certvalue.specs.Values.{list_value, list_of, whole_value, numbers_value, form_value}
use Rattle.affc_certvalue.specs.Verdicts.{worse, in_range, whole, within, any_number, all_of, list, many, form_entries, form_over}
use Rattle.affc_certvalue.specs.declared.verdict.Verdict.{Verdict}
use Rattle.affc_certvalue.specs.declared.verdict.Verdict.TheVariants.{Shape, Number, Fine}
use Rattle.affc_rows.specs.Forms.{Affine}
use Rattle.serde_json.specs.Data.{Data}
use Rattle.serde_json.specs.Events.{items_len}
use Rattle.serde_json.specs.View.{items_of}
use Rattle.std.proofs.Common.{◌≡◌, ℕ, zero, suc, ◌+◌, ◌^◌, ◌<◌, ◌≤◌, ◌||◌, ℤ, pos, negsuc, int_lt, unsigned_abs, Bool, true, false, List, [], ◌∷◌, ◌++◌, length, map, Some, None, if◌then◌else◌, nat_lt, refl, sym, ap, ap₂, ◌∙◌, arith, lt-ltb, le-ltb, eq-eqb, length-append}
use Rattle.std.proofs.lemmas.Bool.{ltb-true, ltb-false, eqb-true}
use Rattle.std.proofs.lemmas.List.Elements.{All-from_recursion, recursion_from_All}
use Rattle.std.specs.List.{All, AllByRecursion}
use Rattle.std.specs.Prelude.{slice_index_or}

abbrev Both : Verdict → Verdict → Type 0
Both a b = (a ≡ Fine) × (b ≡ Fine)

pub both_are : (a b : Verdict) → worse a b ≡ Fine → Both a b
both_are Shape b e = absurd (cc)
both_are Number Shape e = absurd (cc)
both_are Number Number e = absurd (cc)
both_are Number Fine e = absurd (cc)
both_are Fine b e = (refl, e)

pub both_fine : (a b : Verdict) → a ≡ Fine → b ≡ Fine → worse a b ≡ Fine
both_fine a b e f = ap₂ worse e f

pub if_is : (b : Bool) (v : Verdict) → (if b then v else Shape) ≡ Fine → (b ≡ true) × (v ≡ Fine)
if_is true v e = (refl, e)
if_is false v e = absurd (cc)

-- ---- Numbers

abbrev Neither : Bool → Bool → Type 0
Neither a b = (a ≡ false) × (b ≡ false)

neither : (a b : Bool) → (if a || b then Number else Fine) ≡ Fine → Neither a b
neither true b e = absurd (cc)
neither false true e = absurd (cc)
neither false false e = (refl, refl)

abbrev IsBetween : (low high : ℤ) → Bool → ℤ → Type 0
IsBetween low high b z = (b ≡ true) × (int_lt z low ≡ false) × (int_lt high z ≡ false)

range_is : (low high : ℤ) (b : Bool) (z : ℤ) → in_range low high (if b then Some z else None) ≡ Fine → IsBetween low high b z
range_is low high true z e = let n = neither (int_lt z low) (int_lt high z) e in (refl, n.0, n.1)
range_is low high false z e = absurd (cc)

pub small_fine : (m : ℕ) (z : ℤ) → m < 2 ^ 63 → unsigned_abs z ≤ m → within (pos m) (whole_value z) ≡ Fine
small_fine zero (pos n) h e = rw (lt-ltb n (2 ^ 63) (omega (arith, e)), le-ltb n 0 (omega arith), le-ltb 0 n e) refl
small_fine (suc m) (pos n) h e = rw (lt-ltb n (2 ^ 63) (omega (arith, e, h)), le-ltb (suc m) n e) refl
small_fine zero (negsuc n) h e = absurd (omega (arith, e))
small_fine (suc m) (negsuc n) h e = rw (le-ltb m n (omega (arith, e))) refl

pub small_is : (m : ℕ) (z : ℤ) → within (pos m) (whole_value z) ≡ Fine → unsigned_abs z ≤ m
small_is zero (pos n) e = ltb-false 0 n (range_is (pos 0) (pos 0) (nat_lt n (2 ^ 63)) (pos n) e).2
small_is (suc m) (pos n) e = ltb-false (suc m) n (range_is (negsuc m) (pos (suc m)) (nat_lt n (2 ^ 63)) (pos n) e).2
small_is zero (negsuc n) e = absurd (cc)
small_is (suc m) (negsuc n) e = let below = ltb-false m n (range_is (negsuc m) (pos (suc m)) true (negsuc n) e).1 in omega (arith, below)

pub between_fine : (low high n : ℕ) → high < 2 ^ 63 → low ≤ n → n ≤ high → whole (pos low) (pos high) (whole_value (pos n)) ≡ Fine
between_fine low high n h a b = rw (lt-ltb n (2 ^ 63) (omega (arith, h, b)), le-ltb n low a, le-ltb high n b) refl

abbrev AreOrdered : (low n high : ℕ) → Type 0
AreOrdered low n high = (low ≤ n) × (n ≤ high)

pub between_is : (low high n : ℕ) → whole (pos low) (pos high) (whole_value (pos n)) ≡ Fine → AreOrdered low n high
between_is low high n e =
    let found = range_is (pos low) (pos high) (nat_lt n (2 ^ 63)) (pos n) e in
    (ltb-false n low found.1, ltb-false high n found.2)

pub word_fine : (z : ℤ) → IsWord z → any_number (whole_value z) ≡ Fine
word_fine (pos n) h = rw (lt-ltb n (2 ^ 63) (omega (arith, h)), le-ltb 9223372036854775807 n (omega (arith, h))) refl
word_fine (negsuc n) h = rw (le-ltb 9223372036854775807 n (omega (arith, h))) refl

pub word_is : (z : ℤ) → any_number (whole_value z) ≡ Fine → IsWord z
word_is (pos n) e =
    let below = ltb-true n (2 ^ 63) (range_is (negsuc 9223372036854775807) (pos 9223372036854775807) (nat_lt n (2 ^ 63)) (pos n) e).0 in
    omega (arith, below)
word_is (negsuc n) e =
    let below = ltb-false 9223372036854775807 n (range_is (negsuc 9223372036854775807) (pos 9223372036854775807) true (negsuc n) e).1 in
    omega (arith, below)

-- ---- Lists

pub all_fine : {A : Type 0} (judge : Data → Verdict) (f : A → Data) (P : A → Type 0) → ((a : A) → P a → judge (f a) ≡ Fine) → (xs : List A) → AllByRecursion P xs → all_of judge (items_of (map f xs)) ≡ Fine
all_fine judge f P each [] h = refl
all_fine judge f P each (x ∷ xs) h = ap₂ worse (each x h.0) (all_fine judge f P each xs h.1)

pub all_are : {A : Type 0} (judge : Data → Verdict) (f : A → Data) (P : A → Type 0) → ((a : A) → judge (f a) ≡ Fine → P a) → (xs : List A) → all_of judge (items_of (map f xs)) ≡ Fine → AllByRecursion P xs
all_are judge f P each [] e = tt
all_are judge f P each (x ∷ xs) e =
    let two = both_are (judge (f x)) (all_of judge (items_of (map f xs))) e in
    (each x two.0, all_are judge f P each xs two.1)

pub list_fine : {A : Type 0} (judge : Data → Verdict) (f : A → Data) (P : A → Type 0) → ((a : A) → P a → judge (f a) ≡ Fine) → (xs : List A) → All P xs → list (all_of judge) (list_of f xs) ≡ Fine
list_fine judge f P each xs h = all_fine judge f P each xs (recursion_from_All P xs h)

pub list_is : {A : Type 0} (judge : Data → Verdict) (f : A → Data) (P : A → Type 0) → ((a : A) → judge (f a) ≡ Fine → P a) → (xs : List A) → list (all_of judge) (list_of f xs) ≡ Fine → All P xs
list_is judge f P each xs e = All-from_recursion P xs (all_are judge f P each xs e)

pub len_map : {A : Type 0} (f : A → Data) (xs : List A) → items_len (items_of (map f xs)) ≡ length xs
len_map f [] = refl
len_map f (x ∷ xs) = ap suc (len_map f xs)

pub many_fine : {A : Type 0} (n : ℕ) (judge : Data → Verdict) (f : A → Data) (P : A → Type 0) → ((a : A) → P a → judge (f a) ≡ Fine) → (xs : List A) → length xs ≡ n → All P xs → list (many n judge) (list_of f xs) ≡ Fine
many_fine n judge f P each xs e h = rw (len_map f xs, eq-eqb (length xs) n e) (all_fine judge f P each xs (recursion_from_All P xs h))

abbrev pub AreMany : {A : Type 0} → ℕ → (A → Type 0) → List A → Type 0
AreMany n P xs = (length xs ≡ n) × All P xs

pub many_are : {A : Type 0} (n : ℕ) (judge : Data → Verdict) (f : A → Data) (P : A → Type 0) → ((a : A) → judge (f a) ≡ Fine → P a) → (xs : List A) → list (many n judge) (list_of f xs) ≡ Fine → AreMany n P xs
many_are n judge f P each xs e =
    let two = if_is _ _ e in
    (sym (len_map f xs) ∙ eqb-true (items_len (items_of (map f xs))) n two.0, All-from_recursion P xs (all_are judge f P each xs two.1))

pub all_weaker : {A : Type 0} (P Q : A → Type 0) → ((a : A) → P a → Q a) → (xs : List A) → All P xs → All Q xs
all_weaker P Q each xs h = λ k d less. each (slice_index_or xs k d) (h k d less)

pub all_both : {A : Type 0} (P Q : A → Type 0) (xs : List A) → All P xs → All Q xs → All (λ a. P a × Q a) xs
all_both P Q xs h g = λ k d less. (h k d less, g k d less)

-- ---- Forms

entries_fine : (m k : ℕ) (cs : List ℤ) (c : ℤ) → m < 2 ^ 63 → k < 2 ^ 63 → AllByRecursion (λ c. unsigned_abs c ≤ m) cs → unsigned_abs c ≤ k
    → form_entries (pos m) (pos k) (items_of (map whole_value (cs ++ c ∷ []))) ≡ Fine
entries_fine m k [] c h g s e = small_fine k c g e
entries_fine m k (a ∷ []) c h g s e = ap₂ worse (small_fine m a h s.0) (small_fine k c g e)
entries_fine m k (a ∷ b ∷ cs) c h g s e = ap₂ worse (small_fine m a h s.0) (entries_fine m k (b ∷ cs) c h g s.1 e)

pub form_fine : (m k : ℕ) (f : Affine) → m < 2 ^ 63 → k < 2 ^ 63 → IsSmall m k f → list (form_entries (pos m) (pos k)) (form_value f) ≡ Fine
form_fine m k f h g s = entries_fine m k f.coefs f.constant h g (recursion_from_All (λ c. unsigned_abs c ≤ m) f.coefs s.coefs) s.constant

abbrev AreEntries : (m k : ℕ) → List ℤ → ℤ → Type 0
AreEntries m k cs c = AllByRecursion (λ c. unsigned_abs c ≤ m) cs × (unsigned_abs c ≤ k)

entries_are : (m k : ℕ) (cs : List ℤ) (c : ℤ) → form_entries (pos m) (pos k) (items_of (map whole_value (cs ++ c ∷ []))) ≡ Fine → AreEntries m k cs c
entries_are m k [] c e = (tt, small_is k c e)
entries_are m k (a ∷ []) c e = let two = both_are (within (pos m) (whole_value a)) (within (pos k) (whole_value c)) e in ((small_is m a two.0, tt), small_is k c two.1)
entries_are m k (a ∷ b ∷ cs) c e =
    let two = both_are (within (pos m) (whole_value a)) (form_entries (pos m) (pos k) (items_of (map whole_value (b ∷ (cs ++ c ∷ []))))) e in
    let rest = entries_are m k (b ∷ cs) c two.1 in
    ((small_is m a two.0, rest.0), rest.1)

pub form_is : (m k : ℕ) (f : Affine) → list (form_entries (pos m) (pos k)) (form_value f) ≡ Fine → IsSmall m k f
form_is m k f e =
    let found = entries_are m k f.coefs f.constant e in
    record { coefs = All-from_recursion (λ c. unsigned_abs c ≤ m) f.coefs found.0; constant = found.1 }

abbrev IsOver : (columns m k : ℕ) → Affine → Type 0
IsOver columns m k f = (length f.coefs ≡ columns) × IsSmall m k f

one_more : (cs : List ℤ) (c : ℤ) → length (cs ++ c ∷ []) ≡ length cs + 1
one_more cs c = length-append cs (c ∷ [])

pub over_fine : (columns m k : ℕ) (f : Affine) → m < 2 ^ 63 → k < 2 ^ 63 → IsOver columns m k f → list (form_over columns (pos m) (pos k)) (form_value f) ≡ Fine
over_fine columns m k f h g s =
    rw (len_map whole_value (f.coefs ++ f.constant ∷ []), eq-eqb (length (f.coefs ++ f.constant ∷ [])) (columns + 1) (one_more f.coefs f.constant ∙ ap (λ n. n + 1) s.0))
    (form_fine m k f h g s.1)

pub over_is : (columns m k : ℕ) (f : Affine) → list (form_over columns (pos m) (pos k)) (form_value f) ≡ Fine → IsOver columns m k f
over_is columns m k f e =
    let two = if_is _ _ e in
    let long = sym (len_map whole_value (f.coefs ++ f.constant ∷ [])) ∙ eqb-true (items_len (items_of (map whole_value (f.coefs ++ f.constant ∷ [])))) (columns + 1) two.0 in
    (omega (arith, long, one_more f.coefs f.constant), form_is m k f two.1)

-- ---- What is small fits 64 bits

pub small_word : (m : ℕ) (z : ℤ) → m < 2 ^ 63 → unsigned_abs z ≤ m → IsWord z
small_word m (pos n) h e = omega (arith, h, e)
small_word m (negsuc n) h e = omega (arith, h, e)

pub small_words : (m : ℕ) (cs : List ℤ) → m < 2 ^ 63 → AreSmall m cs → All IsWord cs
small_words m cs h s = all_weaker (λ c. unsigned_abs c ≤ m) IsWord (λ c e. small_word m c h e) cs s

pub small_fits : (m k : ℕ) (f : Affine) → m < 2 ^ 63 → k < 2 ^ 63 → IsSmall m k f → FitsForm f
small_fits m k f h g s = (small_words m f.coefs h s.coefs, small_word k f.constant g s.constant)
