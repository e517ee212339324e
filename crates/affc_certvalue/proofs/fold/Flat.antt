-- The value of a fold has no float, and nests only a few levels.
use Rattle.affc_certvalue.specs.fold.Entries.{FoldEntry}
use Rattle.affc_certvalue.specs.fold.Values.{matrix_value, clash_value, point_value, least_value, modulus_value, moduli_value, fold_value}
use Rattle.affc_certvalue.specs.declared.fold.fold.CertLeast.{CertLeast}
use Rattle.affc_certvalue.specs.declared.fold.fold.CertModulus.{CertModulus}
use Rattle.affc_certvalue.proofs.Flat.{IsFlat, weaker, list_of_flat, numbers_flat, form_flat, number_flat, none_flat, member_flat, object_flat}
use Rattle.affc_certvalue.specs.Values.{whole_value, numbers_value, form_value}
use Rattle.serde_json.specs.Data.{member, no_members}
use Rattle.std.proofs.Common.{ℕ, ◌≤◌, ℤ, pos, List, Option, Some, None, codes, refl, arith}

-- ---- Folds

clash_flat : (k : ℕ) (o : Option (ℤ × List ℤ)) → IsFlat k (clash_value o)
clash_flat k None = (refl, omega arith)
clash_flat k (Some pair) = number_flat k pair.0

point_flat : (o : Option (ℤ × List ℤ)) → IsFlat 1 (point_value o)
point_flat None = (refl, omega arith)
point_flat (Some pair) = numbers_flat pair.1

least_flat : (o : Option CertLeast) → IsFlat 2 (least_value o)
least_flat None = (refl, omega arith)
least_flat (Some l) =
    let third = member (codes "point") (point_value l.pair) no_members in
    let second = member (codes "p") (numbers_value l.p) third in
    object_flat 1 (member (codes "clash") (clash_value l.pair) second)
    (member_flat 1 (codes "clash") (clash_value l.pair) second (clash_flat 1 l.pair)
    (member_flat 1 (codes "p") (numbers_value l.p) third (numbers_flat l.p) (member_flat 1 (codes "point") (point_value l.pair) no_members (point_flat l.pair) (none_flat 1))))

modulus_flat : (m : CertModulus) → IsFlat 3 (modulus_value m)
modulus_flat m =
    let second = member (codes "least") (least_value m.least) no_members in
    object_flat 2 (member (codes "form") (form_value m.form) second)
    (member_flat 2 (codes "form") (form_value m.form) second (form_flat 2 m.form (omega arith)) (member_flat 2 (codes "least") (least_value m.least) no_members (least_flat m.least) (none_flat 2)))

matrix_flat : (k : ℕ) (rows : List (List ℤ)) → 2 ≤ k → IsFlat k (matrix_value rows)
matrix_flat k rows h = weaker 2 k (matrix_value rows) h (list_of_flat 1 numbers_value rows numbers_flat)

pub fold_flat : (f : FoldEntry) → IsFlat 5 (fold_value f)
fold_flat f =
    let fourth = member (codes "rows") (matrix_value f.rows) no_members in
    let third = member (codes "moduli") (moduli_value f.moduli) fourth in
    let second = member (codes "inverse") (matrix_value f.inverse) third in
    object_flat 4 (member (codes "array") (whole_value (pos f.array)) second)
    (member_flat 4 (codes "array") (whole_value (pos f.array)) second (number_flat 4 (pos f.array))
    (member_flat 4 (codes "inverse") (matrix_value f.inverse) third (matrix_flat 4 f.inverse (omega arith))
    (member_flat 4 (codes "moduli") (moduli_value f.moduli) fourth (list_of_flat 3 modulus_value f.moduli modulus_flat)
    (member_flat 4 (codes "rows") (matrix_value f.rows) no_members (matrix_flat 4 f.rows (omega arith)) (none_flat 4)))))
