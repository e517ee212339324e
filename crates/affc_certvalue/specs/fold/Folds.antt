-- What is wrong with a value that stands for a fold.
use Rattle.affc_certvalue.specs.declared.fold.layout.Temporary.{Temporary}
use Rattle.affc_certvalue.specs.Verdicts.{any_number, within, all_of, list, many, form_over, members, worse}
use Rattle.affc_certvalue.specs.declared.verdict.Verdict.{Verdict}
use Rattle.affc_certvalue.specs.declared.verdict.Verdict.TheVariants.{Shape, Number, Fine}
use Rattle.serde_json.specs.Data.{Num, Data}
use Rattle.serde_json.specs.Find.{as_null, as_number, as_i64, get}
use Rattle.std.specs.Prelude.{ℕ, ◌==◌, ℤ, pos, negsuc, [], ◌∷◌, Bool, true, false, is_some, if◌then◌else◌, Option, Some, None, codes}

-- as many rows of as many numbers
abbrev pub matrix : ℕ → Data → Verdict
matrix n = list (many n (list (many n (within (pos 256)))))

-- ---- Marks

abbrev pub is_null : Data → Bool
is_null d = is_some (as_null d)

-- null, or judged so
abbrev pub nullable : (Data → Verdict) → Data → Verdict
nullable judge d = if is_null d then Fine else judge d

-- whether null stands there
abbrev pub is_null_there : Option Data → Bool
is_null_there None = false
is_null_there (Some d) = is_null d

-- both are null, or none is
abbrev pub alike : Bool → Bool → Verdict
alike true true = Fine
alike true false = Shape
alike false true = Shape
alike false false = Fine

-- the values of the parameters, and the number of a clash system with a point, or null for both
abbrev pub witness : (parameters : ℕ) → Data → Verdict
witness parameters d =
    worse
    (members
    ((codes "clash", nullable any_number)
    ∷ (codes "p", list (many parameters any_number))
    ∷ (codes "point", nullable (list (all_of any_number)))
    ∷ []) d)
    (alike (is_null_there (get (codes "clash") d)) (is_null_there (get (codes "point") d)))

abbrev pub modulus : (parameters : ℕ) → Data → Verdict
modulus parameters = members ((codes "form", list (form_over parameters (pos 1073741824) (pos 36028797018963968))) ∷ (codes "least", nullable (witness parameters)) ∷ [])

-- ---- Folds

abbrev pub same_number : ℕ → Option ℤ → Verdict
same_number n None = Number
same_number n (Some (pos m)) = if m == n then Fine else Shape
same_number n (Some (negsuc m)) = Shape

abbrev pub this_number_of : ℕ → Option Num → Verdict
this_number_of n None = Shape
this_number_of n (Some m) = same_number n (as_i64 m)

-- this number; a whole number that isn't it has a wrong shape
abbrev pub this_number : ℕ → Data → Verdict
this_number n d = this_number_of n (as_number d)

abbrev pub fold : (parameters : ℕ) → Temporary → Data → Verdict
fold parameters t =
    members
    ((codes "array", this_number t.array)
    ∷ (codes "inverse", matrix t.dimensions)
    ∷ (codes "moduli", list (many t.dimensions (modulus parameters)))
    ∷ (codes "rows", matrix t.dimensions)
    ∷ [])
