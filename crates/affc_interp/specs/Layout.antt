-- Arrays in flat buffers, each with its elements in order, the last subscript running fastest.
use Rattle.std.specs.Prelude.{◌≡◌, ℕ, zero, suc, ◌+◌, ◌*◌, ℤ, pos, ◌<ℤ◌, int_lt, int_le, nat_lt, ◌&&◌, if◌then◌else◌, List, [], ◌∷◌, ◌++◌, length, get_or, drop, map, Option, Some, None}
use Rattle.affc_ast.specs.Meaning.{at_least_zero}
use Rattle.affc_ast.specs.Store.{Element, Store}
use Rattle.affc_interp.specs.declared.memory.Buffer.{Buffer}

-- ---- The elements of one array

-- how many elements an array with these extents has
abbrev pub size_of : (extents : List ℤ) → ℕ
size_of [] = 1
size_of (n ∷ ns) = at_least_zero n * size_of ns

-- these subscripts behind each first subscript from i on
abbrev pub behind_each : (i count : ℕ) → List (List ℤ) → List (List ℤ)
behind_each i zero rest = []
behind_each i (suc count) rest = map (λ xs. pos i ∷ xs) rest ++ behind_each (suc i) count rest

-- the subscripts of all elements, in order
abbrev pub subscripts_of : (extents : List ℤ) → List (List ℤ)
subscripts_of [] = [] ∷ []
subscripts_of (n ∷ ns) = behind_each 0 (at_least_zero n) (subscripts_of ns)

-- ---- Buffers as a store

abbrev pub extents_in : List Buffer → List (List ℤ)
extents_in bs = map (λ b. b.extents.items) bs

-- the cells of all arrays
abbrev pub cells_in : List Buffer → List (Option ℕ)
cells_in [] = []
cells_in (b ∷ bs) = b.cells.items ++ cells_in bs

-- the elements of all arrays, from this number on, in their order
abbrev pub elements_of : (array : ℕ) → (extents : List (List ℤ)) → List Element
elements_of array [] = []
elements_of array (ns ∷ rest) = map (λ xs. (array, xs)) (subscripts_of ns) ++ elements_of (suc array) rest

abbrev pub entry : Element → Option ℕ → Store → Store
entry x None es = es
entry x (Some v) es = (x, v) ∷ es

-- each element that has a value, with it
abbrev pub with_cells : List Element → List (Option ℕ) → Store
with_cells [] cs = []
with_cells (x ∷ xs) [] = []
with_cells (x ∷ xs) (c ∷ cs) = entry x c (with_cells xs cs)

abbrev pub store_held : List Buffer → Store
store_held bs = with_cells (elements_of 0 (extents_in bs)) (cells_in bs)

-- the cell of this number of an array
abbrev pub cell_at : List Buffer → (array place : ℕ) → Option ℕ
cell_at bs array place = get_or (get_or (map (λ b. b.cells.items) bs) array []) place None

-- what is seen of the arrays: the extents of each, and the values
pub record Held : Type 0 where
  pub extents : List (List ℤ)
  pub store : Store

abbrev pub held_in : List Buffer → Held
held_in bs = record { extents = extents_in bs; store = store_held bs }

abbrev pub AreLengths : List ℤ → Type 0
AreLengths [] = Unit {0}
AreLengths (n ∷ ns) = (pos 0 <ℤ n) × AreLengths ns

-- extents of at least 1, and a cell for each element
abbrev pub AreWhole : List Buffer → Type 0
AreWhole [] = Unit {0}
AreWhole (b ∷ bs) = AreLengths b.extents.items × (length b.cells.items ≡ size_of b.extents.items) × AreWhole bs

-- ---- The cell of an element

-- one more subscript, below its extent, in an array of so many elements
abbrev pub place_step : (size : ℕ) → Option ℕ → ℤ → ℤ → Option ℕ
place_step size None x n = None
place_step size (Some k) x n =
    if int_le (pos 0) x && int_lt x n && nat_lt (k * at_least_zero n + at_least_zero x) size then Some (k * at_least_zero n + at_least_zero x) else None

abbrev pub place_from : (size : ℕ) → Option ℕ → (subscripts extents : List ℤ) → Option ℕ
place_from size k [] [] = k
place_from size k [] (n ∷ ns) = None
place_from size k (x ∷ xs) [] = None
place_from size k (x ∷ xs) (n ∷ ns) = place_from size (place_step size k x n) xs ns

-- the number of the cell, where the element lies within the array
abbrev pub offset_of : (extents : List (List ℤ)) → (array : ℕ) → (subscripts : List ℤ) → Option ℕ
offset_of extents array xs = place_from (size_of (get_or extents array [])) (Some 0) xs (get_or extents array [])

-- ---- Values that are given

-- so many cells, the first of them with these values
abbrev pub given_cells : (count : ℕ) → List ℕ → List (Option ℕ)
given_cells zero vs = []
given_cells (suc count) [] = None ∷ given_cells count []
given_cells (suc count) (v ∷ vs) = Some v ∷ given_cells count vs

-- the elements with these subscripts, each with its value, as long as there are values
abbrev pub given_to : (array : ℕ) → (subscripts : List (List ℤ)) → (values : List ℕ) → Store
given_to array [] vs = []
given_to array (xs ∷ xss) [] = []
given_to array (xs ∷ xss) (v ∷ vs) = ((array, xs), v) ∷ given_to array xss vs

-- what arrays with these extents hold that are given these values, from this number on
abbrev pub start_of : (array : ℕ) → (extents : List (List ℤ)) → (values : List (List ℕ)) → Store
start_of array [] vss = []
start_of array (ns ∷ rest) vss = given_to array (subscripts_of ns) (get_or vss 0 []) ++ start_of (suc array) rest (drop 1 vss)
