-- How far apart live pairs lie along the rows of a basis. The rows are looked at one after another, as the successive moduli
-- of Lefebvre and Feautrier (1998).
use Rattle.std.specs.Prelude.{◌≡◌, ℕ, ◌<◌, ◌≤◌, ℤ, ◌-ℤ◌, unsigned_abs, Bool, true, ◌&&◌, nat_eq, nat_le, if◌then◌else◌, List, [], ◌∷◌, take, filter, slice_get, Some, ◌⊎◌}
use Rattle.affc_rows.specs.Forms.{Affine, dot}
use Rattle.affc_ast.specs.Store.{Element}

-- pairs of elements of one array, by their subscripts
abbrev pub Pairs : Type 1
Pairs = List ℤ → List ℤ → Type 0

-- the difference of two elements
abbrev pub minus : List ℤ → List ℤ → List ℤ
minus [] ys = []
minus (x ∷ xs) [] = []
minus (x ∷ xs) (y ∷ ys) = (x -ℤ y) ∷ minus xs ys

-- how far apart two elements lie along a row
abbrev pub along : Affine → List ℤ → List ℤ → ℕ
along row x y = unsigned_abs (dot row.coefs (minus x y))

-- the pairs that lie apart along no row before the k-th
pub record InSlice (pairs : List ℤ → List ℤ → Type 0) (rows : List Affine) (k : ℕ) (x y : List ℤ) : Type 0 where
  pub pair : pairs x y
  pub agrees : (j : ℕ) (row : Affine) → j < k → slice_get rows j ≡ Some row → along row x y ≡ 0

-- the greatest distance along row k in the slice, or 0 where the slice is empty
pub record IsGreatest (pairs : List ℤ → List ℤ → Type 0) (rows : List Affine) (k : ℕ) (row : Affine) (n : ℕ) : Type 0 where
  pub most : (x y : List ℤ) → InSlice pairs rows k x y → along row x y ≤ n
  pub attained : (n ≡ 0) ⊎ ((x : List ℤ) × (y : List ℤ) × InSlice pairs rows k x y × (along row x y ≡ n))

-- ---- Lists that compute

-- whether two elements lie apart along none of these rows
abbrev pub agree_along : List Affine → List ℤ → List ℤ → Bool
agree_along [] x y = true
agree_along (row ∷ rows) x y = nat_eq (along row x y) 0 && agree_along rows x y

-- the pairs of an array, of this list, that lie apart along no row before the k-th
abbrev pub slice_of : List (Element × Element) → (array : ℕ) → List Affine → (k : ℕ) → List (Element × Element)
slice_of pairs array rows k = filter (λ e. nat_eq e.0.0 array && agree_along (take k rows) e.0.1 e.1.1) pairs

-- the greatest distance along a row, or 0 where there is no pair
abbrev pub greatest_along : Affine → List (Element × Element) → ℕ
greatest_along row [] = 0
greatest_along row (e ∷ es) =
    let distance = along row e.0.1 e.1.1 in
    let others = greatest_along row es in
    if nat_le distance others then others else distance
