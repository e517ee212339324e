-- The elements of all arrays stand in the order of a store.
use Rattle.std.proofs.Common.{◌≡◌, ℕ, zero, suc, ◌+◌, ◌<◌, ◌≤◌, ℤ, pos, true, cond, List, [], ◌∷◌, ◌++◌, length, get_or, map, Option, Some, None, Ordering, refl, sym, ap, ◌∙◌, arith, length-append}
use Rattle.std.proofs.lemmas.Bool.Decides.{nat_tests}
use Rattle.std.proofs.lemmas.List.{length-map}
use Rattle.std.specs.Cmp.{tied_itself, nat_cmp_total, int_cmp_total}
use Rattle.std.specs.Cmp.Lexicographic.{slice_cmp}
use Rattle.std.specs.declared.cmp.Ordering.TheVariants.{Less, Greater}
use Rattle.std.specs.FinMap.Entries.{find}
use Rattle.std.specs.Ordering.{is_eq, nat_cmp, int_cmp, ordering_then}
use Rattle.affc_ast.specs.Meaning.{at_least_zero}
use Rattle.affc_ast.specs.Store.{Element, element_cmp, at}
use Rattle.affc_ast.specs.Values.{is_within}
use Rattle.affc_interp.specs.declared.memory.Buffer.{Buffer}
use Rattle.affc_interp.specs.Layout.{size_of, behind_each, subscripts_of, elements_of, extents_in, cells_in, store_held, with_cells, AreWhole}
use Rattle.affc_interp.proofs.Cells.{IsBefore, AreInOrder, AreBefore, before_both, in_order_both, in_order_map, find_cell}
use Rattle.affc_interp.proofs.Places.{row, row_below, subscripts_at, length_subscripts, base, elements_at, cells_at, cell_lists}

abbrev lists : List ℤ → List ℤ → Ordering
lists = slice_cmp int_cmp

-- ---- Subscripts

int_less : (i j : ℕ) → i < j → int_cmp (pos i) (pos j) ≡ Less
int_less i j h = grind (arith, nat_tests)

nat_less : (i j : ℕ) → i < j → nat_cmp i j ≡ Less
nat_less i j h = grind (arith, nat_tests)

same_first : (z : ℤ) (xs ys : List ℤ) → lists xs ys ≡ Less → lists (z ∷ xs) (z ∷ ys) ≡ Less
same_first z xs ys e = ap (λ o. ordering_then o (lists xs ys)) (tied_itself int_cmp_total z) ∙ e

before_row : (i j : ℕ) (xs : List ℤ) (yss : List (List ℤ)) → i < j → IsBefore lists (pos i ∷ xs) (map (λ ys. pos j ∷ ys) yss)
before_row i j xs [] h = tt
before_row i j xs (ys ∷ yss) h = (ap (λ o. ordering_then o (lists xs ys)) (int_less i j h), before_row i j xs yss h)

before_rows : (i j count : ℕ) (xs : List ℤ) (rest : List (List ℤ)) → i < j → IsBefore lists (pos i ∷ xs) (behind_each j count rest)
before_rows i j zero xs rest h = tt
before_rows i j (suc k) xs rest h = before_both lists (pos i ∷ xs) (map (λ ys. pos j ∷ ys) rest) (behind_each (suc j) k rest) (before_row i j xs rest h) (before_rows i (suc j) k xs rest (omega arith))

row_before : (i count : ℕ) (xss rest : List (List ℤ)) → AreBefore lists (map (λ xs. pos i ∷ xs) xss) (behind_each (suc i) count rest)
row_before i k [] rest = tt
row_before i k (xs ∷ xss) rest = (before_rows i (suc i) k xs rest (omega arith), row_before i k xss rest)

rows_in_order : (i count : ℕ) (rest : List (List ℤ)) → AreInOrder lists rest → AreInOrder lists (behind_each i count rest)
rows_in_order i zero rest h = tt
rows_in_order i (suc k) rest h =
    in_order_both lists (map (λ xs. pos i ∷ xs) rest) (behind_each (suc i) k rest) (in_order_map lists lists (λ xs. pos i ∷ xs) (same_first (pos i)) rest h) (rows_in_order (suc i) k rest h) (row_before i k rest rest)

subscripts_in_order : (ns : List ℤ) → AreInOrder lists (subscripts_of ns)
subscripts_in_order [] = (tt, tt)
subscripts_in_order (n ∷ ns) = rows_in_order 0 (at_least_zero n) (subscripts_of ns) (subscripts_in_order ns)

-- ---- Elements

same_array : (a : ℕ) (xs ys : List ℤ) → lists xs ys ≡ Less → element_cmp (a, xs) (a, ys) ≡ Less
same_array a xs ys e = ap (λ o. ordering_then o (lists xs ys)) (tied_itself nat_cmp_total a) ∙ e

before_array : (i j : ℕ) (xs : List ℤ) (yss : List (List ℤ)) → i < j → IsBefore element_cmp (i, xs) (map (λ ys. (j, ys)) yss)
before_array i j xs [] h = tt
before_array i j xs (ys ∷ yss) h = (ap (λ o. ordering_then o (lists xs ys)) (nat_less i j h), before_array i j xs yss h)

before_arrays : (i j : ℕ) (xs : List ℤ) (rest : List (List ℤ)) → i < j → IsBefore element_cmp (i, xs) (elements_of j rest)
before_arrays i j xs [] h = tt
before_arrays i j xs (ns ∷ rest) h = before_both element_cmp (i, xs) (map (λ ys. (j, ys)) (subscripts_of ns)) (elements_of (suc j) rest) (before_array i j xs (subscripts_of ns) h) (before_arrays i (suc j) xs rest (omega arith))

array_before : (i : ℕ) (xss : List (List ℤ)) (rest : List (List ℤ)) → AreBefore element_cmp (map (λ xs. (i, xs)) xss) (elements_of (suc i) rest)
array_before i [] rest = tt
array_before i (xs ∷ xss) rest = (before_arrays i (suc i) xs rest (omega arith), array_before i xss rest)

pub elements_in_order : (i : ℕ) (extents : List (List ℤ)) → AreInOrder element_cmp (elements_of i extents)
elements_in_order i [] = tt
elements_in_order i (ns ∷ rest) =
    in_order_both element_cmp (map (λ xs. (i, xs)) (subscripts_of ns)) (elements_of (suc i) rest)
    (in_order_map lists element_cmp (λ xs. (i, xs)) (same_array i) (subscripts_of ns) (subscripts_in_order ns)) (elements_in_order (suc i) rest) (array_before i (subscripts_of ns) rest)

-- ---- Cells

pub as_many : (i : ℕ) (bs : List Buffer) → AreWhole bs → length (cells_in bs) ≡ length (elements_of i (extents_in bs))
as_many i [] w = refl
as_many i (b ∷ bs) w =
    let here : List Element = map (λ xs. (i, xs)) (subscripts_of b.extents.items) in
    let one : length here ≡ length (subscripts_of b.extents.items) = length-map (subscripts_of b.extents.items) (λ (xs : List ℤ). let e : Element = (i, xs) in e) in
    let size = length_subscripts b.extents.items in
    let rest = as_many (suc i) bs w.2 in
    let cells = w.1 in
    omega (arith, length-append b.cells.items (cells_in bs), length-append here (elements_of (suc i) (extents_in bs)))

pub base_below : (i a r : ℕ) (extents : List (List ℤ)) → a < length extents → r < size_of (get_or extents a []) → base a extents + r < length (elements_of i extents)
base_below i a r [] h k = absurd (omega arith)
base_below i zero r (ns ∷ rest) h k =
    let here : List Element = map (λ xs. (i, xs)) (subscripts_of ns) in
    let one : length here ≡ length (subscripts_of ns) = length-map (subscripts_of ns) (λ (xs : List ℤ). let e : Element = (i, xs) in e) in
    let size = length_subscripts ns in
    omega (arith, length-append here (elements_of (suc i) rest))
base_below i (suc a) r (ns ∷ rest) h k =
    let here : List Element = map (λ xs. (i, xs)) (subscripts_of ns) in
    let one : length here ≡ length (subscripts_of ns) = length-map (subscripts_of ns) (λ (xs : List ℤ). let e : Element = (i, xs) in e) in
    let size = length_subscripts ns in
    let rest_below = base_below (suc i) a r rest (omega arith) k in
    omega (arith, length-append here (elements_of (suc i) rest))

pub element_is : (a : ℕ) (xs : List ℤ) (extents : List (List ℤ)) → a < length extents → is_within xs (get_or extents a []) ≡ true → get_or (elements_of 0 extents) (base a extents + row xs (get_or extents a [])) (0, []) ≡ (a, xs)
element_is a xs extents h e =
    elements_at extents 0 a (row xs (get_or extents a [])) (0, []) h (row_below xs (get_or extents a []) e)
    ∙ (let z : 0 + a ≡ a = omega arith in λ i. (z i, subscripts_at xs (get_or extents a []) [] e i))

-- an element of an array holds what its cell holds
pub held_at : (bs : List Buffer) (a : ℕ) (xs : List ℤ) → AreWhole bs → a < length bs → is_within xs (get_or (extents_in bs) a []) ≡ true → at (store_held bs) (a, xs) ≡ get_or (get_or (cell_lists bs) a []) (row xs (get_or (extents_in bs) a [])) None
held_at bs a xs w h e =
    let ns : List ℤ = get_or (extents_in bs) a [] in
    let many : a < length (extents_in bs) = omega (arith, length-map bs (λ (b : Buffer). b.extents.items)) in
    let below : row xs ns < size_of ns = row_below xs ns e in
    let k : ℕ = base a (extents_in bs) + row xs ns in
    ap (λ x. find element_cmp x (store_held bs)) (sym (element_is a xs (extents_in bs) many e))
    ∙ find_cell (0, []) (elements_of 0 (extents_in bs)) (cells_in bs) k (elements_in_order 0 (extents_in bs)) (as_many 0 bs w) (base_below 0 a (row xs ns) (extents_in bs) many below)
    ∙ cells_at bs a (row xs ns) w h below

abbrev AreBelow : ℕ → List Element → Type 0
AreBelow a [] = Unit {0}
AreBelow a (x ∷ xs) = (x.0 < a) × AreBelow a xs

below_both : (a : ℕ) (xs ys : List Element) → AreBelow a xs → AreBelow a ys → AreBelow a (xs ++ ys)
below_both a [] ys h k = k
below_both a (x ∷ xs) ys h k = (h.0, below_both a xs ys h.1 k)

array_below : (a i : ℕ) (xss : List (List ℤ)) → i < a → AreBelow a (map (λ xs. (i, xs)) xss)
array_below a i [] h = tt
array_below a i (xs ∷ xss) h = (h, array_below a i xss h)

arrays_below : (a i : ℕ) (extents : List (List ℤ)) → i + length extents ≤ a → AreBelow a (elements_of i extents)
arrays_below a i [] h = tt
arrays_below a i (ns ∷ rest) h = below_both a (map (λ xs. (i, xs)) (subscripts_of ns)) (elements_of (suc i) rest) (array_below a i (subscripts_of ns) (omega arith)) (arrays_below a (suc i) rest (omega arith))

nat_greater : (i j : ℕ) → j < i → nat_cmp i j ≡ Greater
nat_greater i j h = grind (arith, nat_tests)

find_past : (a : ℕ) (xs : List ℤ) (ys : List Element) (cs : List (Option ℕ)) → AreBelow a ys → find element_cmp (a, xs) (with_cells ys cs) ≡ None
find_past a xs [] cs h = refl
find_past a xs (y ∷ ys) [] h = refl
find_past a xs (y ∷ ys) (None ∷ cs) h = find_past a xs ys cs h.1
find_past a xs (y ∷ ys) (Some v ∷ cs) h = ap (λ o. cond (is_eq (ordering_then o (lists xs y.1))) (Some v) (find element_cmp (a, xs) (with_cells ys cs))) (nat_greater a y.0 h.0) ∙ find_past a xs ys cs h.1

-- where there is no such array there are no values
pub not_held : (bs : List Buffer) (a : ℕ) (xs : List ℤ) → length bs ≤ a → at (store_held bs) (a, xs) ≡ None
not_held bs a xs h = find_past a xs (elements_of 0 (extents_in bs)) (cells_in bs) (arrays_below a 0 (extents_in bs) (omega (arith, length-map bs (λ (b : Buffer). b.extents.items))))
