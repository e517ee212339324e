-- Where the cell of an element lies.
use Rattle.std.proofs.Common.{◌≡◌, ℕ, zero, suc, ◌+◌, ◌*◌, ◌<◌, ◌≤◌, ℤ, pos, negsuc, Bool, true, false, ◌&&◌, if◌then◌else◌, int_le, List, [], ◌∷◌, ◌++◌, length, get_or, map, Option, Some, None, refl, sym, ap, subst, ◌∙◌, arith, length-append}
use Rattle.std.specs.Prelude.{nat_lt}
use Rattle.std.proofs.lemmas.Bool.Decides.{nat_tests}
use borrow.Author.Tests.{ltb-true, lt-ltb}
use Rattle.std.proofs.lemmas.List.{length-map, get_or_append_left, get_or-append-add, get_or-map}
use Rattle.std.proofs.Math.Nat.{mul-le-mul_left}
use Rattle.affc_ast.specs.Meaning.{at_least_zero}
use Rattle.affc_ast.specs.Values.{is_within}
use Rattle.affc_ast.specs.Store.{Element}
use Rattle.affc_interp.specs.declared.memory.Buffer.{Buffer}
use Rattle.affc_interp.specs.Layout.{size_of, behind_each, subscripts_of, place_from, AreLengths, AreWhole, elements_of, extents_in, cells_in}

-- ---- Sizes

one_each : (b s : ℕ) → 1 ≤ b → 1 ≤ s → 1 ≤ b * s
one_each b s h k = omega (arith, mul-le-mul_left b k)

pub size_pos : (ns : List ℤ) → AreLengths ns → 1 ≤ size_of ns
size_pos [] h = omega arith
size_pos (pos n ∷ ns) h = one_each n (size_of ns) (grind arith) (size_pos ns h.1)
size_pos (negsuc n ∷ ns) h = absurd (grind arith)

length_rows : (i count : ℕ) (rest : List (List ℤ)) → length (behind_each i count rest) ≡ count * length rest
length_rows i zero rest = omega arith
length_rows i (suc k) rest = omega (arith, length-append (map (λ xs. pos i ∷ xs) rest) (behind_each (suc i) k rest), length-map rest (λ (xs : List ℤ). pos i ∷ xs), length_rows (suc i) k rest)

pub length_subscripts : (ns : List ℤ) → length (subscripts_of ns) ≡ size_of ns
length_subscripts [] = refl
length_subscripts (n ∷ ns) = length_rows 0 (at_least_zero n) (subscripts_of ns) ∙ ap (λ l. at_least_zero n * l) (length_subscripts ns)

-- ---- The number of an element within its array

abbrev pub row : (subscripts extents : List ℤ) → ℕ
row [] ns = 0
row (x ∷ xs) [] = 0
row (x ∷ xs) (n ∷ ns) = at_least_zero x * size_of ns + row xs ns

row_fits : (a b s r : ℕ) → a < b → r < s → a * s + r < b * s
row_fits a b s r h k = let le : a + 1 ≤ b = omega arith in omega (arith, mul-le-mul_left s le)

first_of : (p q : Bool) → (p && q) ≡ true → p ≡ true
first_of true q e = refl
first_of false q e = e

second_of : (p q : Bool) → (p && q) ≡ true → q ≡ true
second_of true q e = e
second_of false q e = cc

never : false ≡ true → ⊥
never e = cc

below : (a b : ℕ) (q : Bool) → (int_le (pos 0) (pos a) && nat_lt a b && q) ≡ true → a < b
below a b q e = ltb-true a b (second_of (int_le (pos 0) (pos a)) (nat_lt a b) (first_of (int_le (pos 0) (pos a) && nat_lt a b) q e))

pub row_below : (xs ns : List ℤ) → is_within xs ns ≡ true → row xs ns < size_of ns
row_below [] [] e = omega arith
row_below [] (n ∷ ns) e = absurd (never e)
row_below (x ∷ xs) [] e = absurd (never e)
row_below (pos a ∷ xs) (pos b ∷ ns) e = row_fits a b (size_of ns) (row xs ns) (below a b (is_within xs ns) e) (row_below xs ns (second_of (int_le (pos 0) (pos a) && nat_lt a b) (is_within xs ns) e))
row_below (pos a ∷ xs) (negsuc b ∷ ns) e = absurd (never (second_of (int_le (pos 0) (pos a)) false (first_of (int_le (pos 0) (pos a) && false) (is_within xs ns) e)))
row_below (negsuc a ∷ xs) (n ∷ ns) e = absurd (never e)

rows_at : (i count x r : ℕ) (rest : List (List ℤ)) (d : List ℤ) → x < count → r < length rest → get_or (behind_each i count rest) (x * length rest + r) d ≡ pos (i + x) ∷ get_or rest r d
rows_at i zero x r rest d h k = absurd (omega arith)
rows_at i (suc count) zero r rest d h k =
    let here : List (List ℤ) = map (λ xs. pos i ∷ xs) rest in
    let at : 0 * length rest + r ≡ r = omega arith in
    let inside : r < length here = omega (arith, length-map rest (λ (xs : List ℤ). pos i ∷ xs)) in
    ap (λ n. get_or (here ++ behind_each (suc i) count rest) n d) at
    ∙ get_or_append_left here (behind_each (suc i) count rest) d r inside
    ∙ get_or-map (λ (xs : List ℤ). pos i ∷ xs) rest r d d k
    ∙ (let e : i ≡ i + 0 = omega arith in ap (λ n. pos n ∷ get_or rest r d) e)
rows_at i (suc count) (suc x) r rest d h k =
    let here : List (List ℤ) = map (λ xs. pos i ∷ xs) rest in
    let at : suc x * length rest + r ≡ length here + (x * length rest + r) = omega (arith, length-map rest (λ (xs : List ℤ). pos i ∷ xs)) in
    ap (λ n. get_or (here ++ behind_each (suc i) count rest) n d) at
    ∙ get_or-append-add here (behind_each (suc i) count rest) (x * length rest + r) d
    ∙ rows_at (suc i) count x r rest d (omega arith) k
    ∙ (let e : suc i + x ≡ i + suc x = omega arith in ap (λ n. pos n ∷ get_or rest r d) e)

pub subscripts_at : (xs ns : List ℤ) (d : List ℤ) → is_within xs ns ≡ true → get_or (subscripts_of ns) (row xs ns) d ≡ xs
subscripts_at [] [] d e = refl
subscripts_at [] (n ∷ ns) d e = absurd (never e)
subscripts_at (x ∷ xs) [] d e = absurd (never e)
subscripts_at (pos a ∷ xs) (pos b ∷ ns) d e =
    let inner = second_of (int_le (pos 0) (pos a) && nat_lt a b) (is_within xs ns) e in
    let lt : a < b = below a b (is_within xs ns) e in
    let size : length (subscripts_of ns) ≡ size_of ns = length_subscripts ns in
    let at : a * size_of ns + row xs ns ≡ a * length (subscripts_of ns) + row xs ns = ap (λ n. a * n + row xs ns) (sym size) in
    let lower : row xs ns < length (subscripts_of ns) = omega (arith, row_below xs ns inner) in
    ap (λ n. get_or (behind_each 0 b (subscripts_of ns)) n d) at
    ∙ rows_at 0 b a (row xs ns) (subscripts_of ns) d lt lower
    ∙ (let z : 0 + a ≡ a = omega arith in λ i. pos (z i) ∷ subscripts_at xs ns d inner i)
subscripts_at (pos a ∷ xs) (negsuc b ∷ ns) d e = absurd (never (second_of (int_le (pos 0) (pos a)) false (first_of (int_le (pos 0) (pos a) && false) (is_within xs ns) e)))
subscripts_at (negsuc a ∷ xs) (n ∷ ns) d e = absurd (never e)

-- ---- The place that the subscripts lead to

pub place_none : (total : ℕ) (xs ns : List ℤ) → place_from total None xs ns ≡ None
place_none total [] [] = refl
place_none total [] (n ∷ ns) = refl
place_none total (x ∷ xs) [] = refl
place_none total (x ∷ xs) (n ∷ ns) = place_none total xs ns

room : (k a b s total : ℕ) → a < b → (k + 1) * (b * s) ≤ total → (k * b + a + 1) * s ≤ total
room k a b s total h fits = let le : k * b + a + 1 ≤ (k + 1) * b = omega arith in omega (arith, mul-le-mul_left s le)

inside_all : (k s total : ℕ) → 1 ≤ s → (k + 1) * s ≤ total → k < total
inside_all k s total h fits = omega (arith, mul-le-mul_left (k + 1) h)

same_sum : (k a b s r : ℕ) → (k * b + a) * s + r ≡ k * (b * s) + (a * s + r)
same_sum k a b s r = omega arith

from_zero : (a : ℕ) → int_le (pos 0) (pos a) ≡ true
from_zero a = grind (arith, nat_tests)

pub place_is : (total k : ℕ) (xs ns : List ℤ) → AreLengths ns → (k + 1) * size_of ns ≤ total → place_from total (Some k) xs ns ≡ (if is_within xs ns then Some (k * size_of ns + row xs ns) else None)
place_is total k [] [] o fits = let e : k ≡ k * 1 + 0 = omega arith in ap Some e
place_is total k [] (n ∷ ns) o fits = refl
place_is total k (x ∷ xs) [] o fits = refl
place_is total k (negsuc a ∷ xs) (n ∷ ns) o fits = place_none total xs ns
place_is total k (pos a ∷ xs) (negsuc b ∷ ns) o fits = absurd (grind arith)
place_is total k (pos a ∷ xs) (pos b ∷ ns) o fits =
    subst (λ (z : Bool). place_from total (if z && nat_lt a b && nat_lt (k * b + a) total then Some (k * b + a) else None) xs ns ≡ (if z && nat_lt a b && is_within xs ns then Some (k * (b * size_of ns) + (a * size_of ns + row xs ns)) else None)) (sym (from_zero a)) (
    elim (nat_lt a b) as (λ (t : Bool). nat_lt a b ≡ t → place_from total (if true && t && nat_lt (k * b + a) total then Some (k * b + a) else None) xs ns ≡ (if true && t && is_within xs ns then Some (k * (b * size_of ns) + (a * size_of ns + row xs ns)) else None)) [
      | false ↦ λ _. place_none total xs ns
      | true ↦ λ e.
          let lt : a < b = ltb-true a b e in
          let more : (k * b + a + 1) * size_of ns ≤ total = room k a b (size_of ns) total lt fits in
          let here : nat_lt (k * b + a) total ≡ true = lt-ltb (k * b + a) total (inside_all (k * b + a) (size_of ns) total (size_pos ns o.1) more) in
          ap (λ t. place_from total (if t then Some (k * b + a) else None) xs ns) here
          ∙ place_is total (k * b + a) xs ns o.1 more
          ∙ ap (λ n. if is_within xs ns then Some n else None) (same_sum k a b (size_of ns) (row xs ns))
    ] refl)

-- ---- Among the elements of all arrays

abbrev pub base : (array : ℕ) → List (List ℤ) → ℕ
base array [] = 0
base zero (ns ∷ rest) = 0
base (suc array) (ns ∷ rest) = size_of ns + base array rest

pub elements_at : (extents : List (List ℤ)) (i a r : ℕ) (d : Element) → a < length extents → r < size_of (get_or extents a []) → get_or (elements_of i extents) (base a extents + r) d ≡ (i + a, get_or (subscripts_of (get_or extents a [])) r d.1)
elements_at [] i a r d h k = absurd (omega arith)
elements_at (ns ∷ rest) i zero r d h k =
    let here : List Element = map (λ xs. (i, xs)) (subscripts_of ns) in
    let size = length_subscripts ns in
    let inside : r < length here = omega (arith, length-map (subscripts_of ns) (λ (xs : List ℤ). let e : Element = (i, xs) in e)) in
    let at : 0 + r ≡ r = omega arith in
    let below : r < length (subscripts_of ns) = omega arith in
    ap (λ n. get_or (here ++ elements_of (suc i) rest) n d) at
    ∙ get_or_append_left here (elements_of (suc i) rest) d r inside
    ∙ get_or-map (λ (xs : List ℤ). let e : Element = (i, xs) in e) (subscripts_of ns) r d.1 d below
    ∙ (let e : i ≡ i + 0 = omega arith in ap (λ n. (n, get_or (subscripts_of ns) r d.1)) e)
elements_at (ns ∷ rest) i (suc a) r d h k =
    let here : List Element = map (λ xs. (i, xs)) (subscripts_of ns) in
    let size = length_subscripts ns in
    let at : (size_of ns + base a rest) + r ≡ length here + (base a rest + r) = omega (arith, length-map (subscripts_of ns) (λ (xs : List ℤ). let e : Element = (i, xs) in e)) in
    ap (λ n. get_or (here ++ elements_of (suc i) rest) n d) at
    ∙ get_or-append-add here (elements_of (suc i) rest) (base a rest + r) d
    ∙ elements_at rest (suc i) a r d (omega arith) k
    ∙ (let e : suc i + a ≡ i + suc a = omega arith in ap (λ n. (n, get_or (subscripts_of (get_or rest a [])) r d.1)) e)

-- the cells of each array
abbrev pub cell_lists : List Buffer → List (List (Option ℕ))
cell_lists bs = map (λ b. b.cells.items) bs

pub cells_at : (bs : List Buffer) (a r : ℕ) → AreWhole bs → a < length bs → r < size_of (get_or (extents_in bs) a []) → get_or (cells_in bs) (base a (extents_in bs) + r) None ≡ get_or (get_or (cell_lists bs) a []) r None
cells_at [] a r w h k = absurd (omega arith)
cells_at (b ∷ bs) zero r w h k =
    let size = w.1 in
    let inside : r < length b.cells.items = omega arith in
    let at : 0 + r ≡ r = omega arith in
    ap (λ n. get_or (b.cells.items ++ cells_in bs) n None) at ∙ get_or_append_left b.cells.items (cells_in bs) None r inside
cells_at (b ∷ bs) (suc a) r w h k =
    let size = w.1 in
    let at : (size_of b.extents.items + base a (extents_in bs)) + r ≡ length b.cells.items + (base a (extents_in bs) + r) = omega arith in
    ap (λ n. get_or (b.cells.items ++ cells_in bs) n None) at
    ∙ get_or-append-add b.cells.items (cells_in bs) (base a (extents_in bs) + r) None
    ∙ cells_at bs a r w.2 (omega arith) k

pub size_at_is : (bs : List Buffer) (a : ℕ) (b : Buffer) → AreWhole bs → a < length bs → length (get_or bs a b).cells.items ≡ size_of (get_or (extents_in bs) a [])
size_at_is [] a b w h = absurd (omega arith)
size_at_is (c ∷ bs) zero b w h = w.1
size_at_is (c ∷ bs) (suc a) b w h = size_at_is bs a b w.2 (omega arith)
