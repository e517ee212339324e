-- The bases that are tried for an array, by its number of dimensions.
use Rattle.std.specs.Prelude.{◌≡◌, ℕ, zero, suc, ℤ, pos, negsuc, List, [], ◌∷◌, length, map}
use Rattle.std.specs.List.{All}
use Rattle.affc_rows.specs.Forms.{Affine}
use Rattle.affc_trace.specs.Inverses.{column}
use Rattle.affc_basis.specs.declared.basis.Basis.{Basis}
use Rattle.affc_basis.specs.Bases.{IsSquare, HaveCoefsWithin, AreComponents}

-- the rows, and the inverse forms over their values
pub record Shape : Type 0 where
  pub rows : List Affine
  pub inverse : List Affine

abbrev pub shape_of : Basis → Shape
shape_of basis = record { rows = basis.rows; inverse = basis.inverse }

-- a form without a constant
abbrev pub linear : List ℤ → Affine
linear coefs = record { coefs = coefs; constant = pos 0 }

-- two rows and two inverse forms, by their coefficients
abbrev pub square : (a b c d : ℤ) → (e f g h : ℤ) → Shape
square a b c d e f g h = record { rows = linear (a ∷ b ∷ []) ∷ linear (c ∷ d ∷ []) ∷ []; inverse = linear (e ∷ f ∷ []) ∷ linear (g ∷ h ∷ []) ∷ [] }

-- the columns in this order, of which the inverse forms have that one
abbrev pub order : (i j k : ℕ) → (l m n : ℕ) → Shape
order i j k l m n = record { rows = column 3 i ∷ column 3 j ∷ column 3 k ∷ []; inverse = column 3 l ∷ column 3 m ∷ column 3 n ∷ [] }

abbrev pub columns : List Affine → Shape
columns forms = record { rows = forms; inverse = forms }

-- both orders, and sums and differences with small factors
abbrev pub of_two : List Shape
of_two =
    -- (x0, x1) and (x1, x0)
    square (pos 1) (pos 0) (pos 0) (pos 1) (pos 1) (pos 0) (pos 0) (pos 1)
    ∷ square (pos 0) (pos 1) (pos 1) (pos 0) (pos 0) (pos 1) (pos 1) (pos 0)
    -- (x0 + x1, x1) and (x0 - x1, x1)
    ∷ square (pos 1) (pos 1) (pos 0) (pos 1) (pos 1) (negsuc 0) (pos 0) (pos 1)
    ∷ square (pos 1) (negsuc 0) (pos 0) (pos 1) (pos 1) (pos 1) (pos 0) (pos 1)
    -- (x0 + 2 x1, x1) and (x0 - 2 x1, x1)
    ∷ square (pos 1) (pos 2) (pos 0) (pos 1) (pos 1) (negsuc 1) (pos 0) (pos 1)
    ∷ square (pos 1) (negsuc 1) (pos 0) (pos 1) (pos 1) (pos 2) (pos 0) (pos 1)
    -- (2 x0 + x1, x0) and (2 x0 - x1, x0)
    ∷ square (pos 2) (pos 1) (pos 1) (pos 0) (pos 0) (pos 1) (pos 1) (negsuc 1)
    ∷ square (pos 2) (negsuc 0) (pos 1) (pos 0) (pos 0) (pos 1) (negsuc 0) (pos 2)
    ∷ []

abbrev pub of_three : List Shape
of_three = order 0 1 2 0 1 2 ∷ order 0 2 1 0 2 1 ∷ order 1 0 2 1 0 2 ∷ order 1 2 0 2 0 1 ∷ order 2 0 1 1 2 0 ∷ order 2 1 0 2 1 0 ∷ []

-- for one dimension and for four the identity alone
abbrev pub listing : (dimensions : ℕ) → List Shape
listing zero = columns [] ∷ []
listing (suc zero) = columns (column 1 0 ∷ []) ∷ []
listing (suc (suc zero)) = of_two
listing (suc (suc (suc zero))) = of_three
listing (suc (suc (suc (suc zero)))) = columns (column 4 0 ∷ column 4 1 ∷ column 4 2 ∷ column 4 3 ∷ []) ∷ []
listing (suc (suc (suc (suc (suc n))))) = []

-- Each of them is a basis of so many dimensions: rows and inverse forms multiply to the identity.
pub record IsBasis (dimensions : ℕ) (s : Shape) : Type 0 where
  pub dimensions_fit : length s.rows ≡ dimensions
  pub is_square : IsSquare s.rows s.inverse
  pub row_bounds : HaveCoefsWithin 256 s.rows
  pub inverse_bounds : HaveCoefsWithin 256 s.inverse
  pub identity : AreComponents s.rows s.inverse

-- the shapes whose coefficients stand in two lists, side by side
abbrev pub shapes_of : List (List (List ℤ)) → List (List (List ℤ)) → List Shape
shapes_of [] inverses = []
shapes_of (rows ∷ rs) [] = []
shapes_of (rows ∷ rs) (inverse ∷ is) = record { rows = map linear rows; inverse = map linear inverse } ∷ shapes_of rs is

abbrev pub ListedAreBases : Type 0
ListedAreBases = (dimensions : ℕ) → All (IsBasis dimensions) (listing dimensions)
