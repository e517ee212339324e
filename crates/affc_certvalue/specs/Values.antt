-- The JSON values of numbers, forms and lists.
use Rattle.affc_rows.specs.Forms.{Affine}
use Rattle.serde_json.specs.Data.{Data, number, array}
use Rattle.serde_json.specs.Find.{of_integer}
use Rattle.serde_json.specs.View.{items_of}
use Rattle.std.specs.Prelude.{ℤ, List, [], ◌∷◌, ◌++◌, map}

abbrev pub list_value : List Data → Data
list_value ds = array (items_of ds)

-- the values of the entries, one after another
abbrev pub list_of : {A : Type 0} → (A → Data) → List A → Data
list_of f xs = list_value (map f xs)

abbrev pub whole_value : ℤ → Data
whole_value z = number (of_integer z)

abbrev pub numbers_value : List ℤ → Data
numbers_value zs = list_of whole_value zs

-- coefficients in column order and then the constant
abbrev pub form_value : Affine → Data
form_value f = numbers_value (f.coefs ++ f.constant ∷ [])

abbrev pub forms_value : List Affine → Data
forms_value fs = list_of form_value fs
