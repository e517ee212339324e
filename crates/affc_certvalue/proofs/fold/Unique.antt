-- Two folds with one JSON value are one.
use Rattle.affc_certvalue.specs.fold.Entries.{FoldEntry}
use Rattle.affc_certvalue.specs.fold.Values.{matrix_value, clash_value, point_value, least_value, modulus_value, fold_value, folds_value}
use Rattle.affc_certvalue.specs.declared.fold.fold.CertLeast.{CertLeast}
use Rattle.affc_certvalue.specs.declared.fold.fold.CertModulus.{CertModulus}
use Rattle.affc_certvalue.proofs.Unique.{list_of_same, whole_same, numbers_same, form_same, natural_same, member_same, members_same, object_same}
use Rattle.affc_certvalue.specs.Values.{numbers_value}
use Rattle.std.proofs.Common.{◌≡◌, ℕ, ℤ, List, Option, Some, None, refl, ap, ap₂}

-- ---- Folds

matrix_same : (xs ys : List (List ℤ)) → matrix_value xs ≡ matrix_value ys → xs ≡ ys
matrix_same xs ys e = list_of_same numbers_value numbers_same xs ys e

witness_same : (o u : Option (ℤ × List ℤ)) → clash_value o ≡ clash_value u → point_value o ≡ point_value u → o ≡ u
witness_same None None e f = refl
witness_same None (Some q) e f = absurd (cc)
witness_same (Some p) None e f = absurd (cc)
witness_same (Some p) (Some q) e f = ap₂ (λ x y. Some (x, y)) (whole_same p.0 q.0 e) (numbers_same p.1 q.1 f)

least_of : (l m : CertLeast) → l.p ≡ m.p → l.pair ≡ m.pair → l ≡ m
least_of l m e f = ap₂ (λ p o. record { p = p; pair = o }) e f

least_same : (o u : Option CertLeast) → least_value o ≡ least_value u → o ≡ u
least_same None None e = refl
least_same None (Some m) e = absurd (cc)
least_same (Some l) None e = absurd (cc)
least_same (Some l) (Some m) e =
    let same = object_same _ _ e in
    let second = members_same _ _ _ _ _ _ same in
    let third = members_same _ _ _ _ _ _ second in
    ap Some
    (least_of l m (numbers_same l.p m.p (member_same _ _ _ _ _ _ second)) (witness_same l.pair m.pair (member_same _ _ _ _ _ _ same) (member_same _ _ _ _ _ _ third)))

modulus_of : (m n : CertModulus) → m.form ≡ n.form → m.least ≡ n.least → m ≡ n
modulus_of m n e f = ap₂ (λ g l. record { form = g; least = l }) e f

modulus_same : (m n : CertModulus) → modulus_value m ≡ modulus_value n → m ≡ n
modulus_same m n e =
    let same = object_same _ _ e in
    let second = members_same _ _ _ _ _ _ same in
    modulus_of m n (form_same m.form n.form (member_same _ _ _ _ _ _ same)) (least_same m.least n.least (member_same _ _ _ _ _ _ second))

fold_same : (f g : FoldEntry) → fold_value f ≡ fold_value g → f ≡ g
fold_same f g e =
    let first = object_same _ _ e in
    let second = members_same _ _ _ _ _ _ first in
    let third = members_same _ _ _ _ _ _ second in
    let fourth = members_same _ _ _ _ _ _ third in
    let array : f.array ≡ g.array = natural_same f.array g.array (member_same _ _ _ _ _ _ first) in
    let inverse : f.inverse ≡ g.inverse = matrix_same f.inverse g.inverse (member_same _ _ _ _ _ _ second) in
    let moduli : f.moduli ≡ g.moduli = list_of_same modulus_value modulus_same f.moduli g.moduli (member_same _ _ _ _ _ _ third) in
    let rows : f.rows ≡ g.rows = matrix_same f.rows g.rows (member_same _ _ _ _ _ _ fourth) in
    ap₂ {A = ℕ × List (List ℤ)} {B = List (List ℤ) × List CertModulus} (λ x y. record { array = x.0; rows = x.1; inverse = y.0; moduli = y.1 }) (ap₂ (λ a r. (a, r)) array rows) (ap₂ (λ i m. (i, m)) inverse moduli)

pub folds_same : (fs gs : List FoldEntry) → folds_value fs ≡ folds_value gs → fs ≡ gs
folds_same fs gs e = list_of_same fold_value fold_same fs gs e
