-- The JSON value of a fold.
use Rattle.affc_certvalue.specs.fold.Entries.{FoldEntry}
use Rattle.affc_certvalue.specs.declared.fold.fold.CertLeast.{CertLeast}
use Rattle.affc_certvalue.specs.declared.fold.fold.CertModulus.{CertModulus}
use Rattle.affc_certvalue.specs.Values.{list_of, whole_value, numbers_value, form_value}
use Rattle.serde_json.specs.Data.{Data, null, array, object, no_members, member}
use Rattle.std.specs.Prelude.{ℤ, pos, List, Option, Some, None, codes}

-- ---- Folds

abbrev pub matrix_value : List (List ℤ) → Data
matrix_value rows = list_of numbers_value rows

abbrev pub clash_value : Option (ℤ × List ℤ) → Data
clash_value None = null
clash_value (Some pair) = whole_value pair.0

abbrev pub point_value : Option (ℤ × List ℤ) → Data
point_value None = null
point_value (Some pair) = numbers_value pair.1

abbrev pub least_value : Option CertLeast → Data
least_value None = null
least_value (Some l) = object (member (codes "clash") (clash_value l.pair) (member (codes "p") (numbers_value l.p) (member (codes "point") (point_value l.pair) no_members)))

abbrev pub modulus_value : CertModulus → Data
modulus_value m = object (member (codes "form") (form_value m.form) (member (codes "least") (least_value m.least) no_members))

abbrev pub moduli_value : List CertModulus → Data
moduli_value ms = list_of modulus_value ms

abbrev pub fold_value : FoldEntry → Data
fold_value f =
    object (member (codes "array") (whole_value (pos f.array)) (member (codes "inverse") (matrix_value f.inverse) (member (codes "moduli") (moduli_value f.moduli) (member (codes "rows") (matrix_value f.rows) no_members))))

abbrev pub folds_value : List FoldEntry → Data
folds_value fs = list_of fold_value fs
