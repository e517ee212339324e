-- When forms are the rows of a unimodular basis: their product with the inverse forms is the identity.
use Rattle.std.specs.Prelude.{◌≡◌, ℕ, ◌<◌, ◌≤◌, ℤ, pos, ◌+ℤ◌, ◌*ℤ◌, unsigned_abs, Bool, true, false, List, [], ◌∷◌, length, get_or, slice_get, Option, Some, None}
use Rattle.std.specs.List.{All}
use Rattle.affc_rows.specs.Forms.{Affine, HaveColumns}
use Rattle.affc_trace.specs.Inverses.{GivesColumn}

-- as many rows and inverse forms as columns, at most four
pub record IsSquare (rows inverse : List Affine) : Type 0 where
  pub columns : HaveColumns (length rows) rows
  pub inverse_columns : HaveColumns (length rows) inverse
  pub one_each : length inverse ≡ length rows
  pub few : length rows ≤ 4

-- each number is at most this in magnitude
abbrev pub AreWithin : ℕ → List ℤ → Type 0
AreWithin bound cs = All (λ c. unsigned_abs c ≤ bound) cs

abbrev pub HaveCoefsWithin : ℕ → List Affine → Type 0
HaveCoefsWithin bound forms = All (λ f. AreWithin bound f.coefs) forms

-- row k and its inverse form have no constant, and the inverse form, with the rows put in, is column k
pub record IsComponent (rows inverse : List Affine) (k : ℕ) : Type 0 where
  pub row : (r : Affine) → slice_get rows k ≡ Some r → r.constant ≡ pos 0
  pub inverse_row : (g : Affine) → slice_get inverse k ≡ Some g → g.constant ≡ pos 0
  pub product : GivesColumn inverse rows 0 k

abbrev pub AreComponents : List Affine → List Affine → Type 0
AreComponents rows inverse = (k : ℕ) → k < length rows → IsComponent rows inverse k

-- the first component that isn't one
pub record IsFirstBroken (rows inverse : List Affine) (k : ℕ) : Type 0 where
  pub within : k < length rows
  pub broken : ¬ (IsComponent rows inverse k)
  pub before : (j : ℕ) → j < k → IsComponent rows inverse j

-- ---- How the product is looked at, entry by entry

-- the coefficient of a column, or the constant
abbrev pub entry_of : Option ℕ → Affine → ℤ
entry_of None f = f.constant
entry_of (Some j) f = get_or f.coefs j (pos 0)

abbrev pub entries_of : Option ℕ → List Affine → List ℤ
entries_of column [] = []
entries_of column (f ∷ fs) = entry_of column f ∷ entries_of column fs

-- the forms have such a column
abbrev pub HaveColumn : Option ℕ → List Affine → Type 0
HaveColumn None forms = Unit {0}
HaveColumn (Some j) forms = All (λ f. j < length f.coefs) forms

-- an entry of the identity
abbrev pub identity_entry : Bool → ℤ
identity_entry true = pos 1
identity_entry false = pos 0

-- a sum that is kept in two parts
abbrev pub wide_value : (high low : ℤ) → ℤ
wide_value high low = (pos 4096 *ℤ high) +ℤ low
