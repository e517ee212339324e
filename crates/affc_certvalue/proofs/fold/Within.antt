-- Folds that have nothing wrong are those within the limits.
use Rattle.affc_certvalue.specs.fold.Entries.{FoldEntry}
use Rattle.affc_certvalue.specs.fold.Folds.{matrix, nullable, is_null_there, alike, witness, modulus, same_number, this_number, fold}
use Rattle.affc_certvalue.specs.fold.Limits.{IsPairWithin, IsLeastWithin, IsMarkWithin, IsModulusWithin, IsRowWithin, IsMatrixWithin, IsFoldWithin}
use Rattle.affc_certvalue.specs.fold.Values.{matrix_value, clash_value, point_value, least_value, modulus_value, moduli_value, fold_value}
use Rattle.affc_certvalue.specs.declared.fold.fold.CertLeast.{CertLeast}
use Rattle.affc_certvalue.specs.declared.fold.fold.CertModulus.{CertModulus}
use Rattle.affc_certvalue.specs.declared.fold.layout.Temporary.{Temporary}
use Rattle.affc_certvalue.proofs.Within.{both_are, both_fine, small_fine, small_is, word_fine, word_is, list_fine, list_is, many_fine, many_are, over_fine, over_is}
use Rattle.affc_certvalue.specs.Limits.{IsWord}
use Rattle.affc_certvalue.specs.Values.{whole_value, numbers_value, form_value}
use Rattle.affc_certvalue.specs.Verdicts.{worse, within, any_number, all_of, list, many, form_over}
use Rattle.affc_certvalue.specs.declared.verdict.Verdict.{Verdict}
use Rattle.affc_certvalue.specs.declared.verdict.Verdict.TheVariants.{Shape, Number, Fine}
use Rattle.serde_json.specs.Data.{Data, object, no_members, member}
use Rattle.std.proofs.Common.{◌≡◌, ℕ, ◌^◌, ◌≤◌, ◌==◌, ℤ, pos, unsigned_abs, Bool, true, false, List, [], ◌∷◌, length, Option, Some, None, if◌then◌else◌, nat_lt, codes, refl, sym, ap, ap₂, ◌∙◌, arith, lt-ltb, eq-eqb}
use Rattle.std.proofs.lemmas.Bool.{ltb-true, eqb-true}
use Rattle.std.specs.List.{All}

-- ---- Rows

row_fine : (n : ℕ) (row : List ℤ) → IsRowWithin n row → list (many n (within (pos 256))) (numbers_value row) ≡ Fine
row_fine n row h = many_fine n (within (pos 256)) whole_value (λ c. unsigned_abs c ≤ 256) (λ c e. small_fine 256 c (omega arith) e) row h.each h.small

row_is : (n : ℕ) (row : List ℤ) → list (many n (within (pos 256))) (numbers_value row) ≡ Fine → IsRowWithin n row
row_is n row e = let found = many_are n (within (pos 256)) whole_value (λ c. unsigned_abs c ≤ 256) (λ c h. small_is 256 c h) row e in record { each = found.0; small = found.1 }

matrix_fine : (n : ℕ) (rows : List (List ℤ)) → IsMatrixWithin n rows → matrix n (matrix_value rows) ≡ Fine
matrix_fine n rows h = many_fine n (list (many n (within (pos 256)))) numbers_value (IsRowWithin n) (row_fine n) rows h.each h.all

matrix_is : (n : ℕ) (rows : List (List ℤ)) → matrix n (matrix_value rows) ≡ Fine → IsMatrixWithin n rows
matrix_is n rows e = let found = many_are n (list (many n (within (pos 256)))) numbers_value (IsRowWithin n) (row_is n) rows e in record { each = found.0; all = found.1 }

-- ---- Marks

parameters_fine : (n : ℕ) (p : List ℤ) → length p ≡ n → All IsWord p → list (many n any_number) (numbers_value p) ≡ Fine
parameters_fine n p e h = many_fine n any_number whole_value IsWord word_fine p e h

abbrev AreValues : ℕ → List ℤ → Type 0
AreValues n p = (length p ≡ n) × All IsWord p

parameters_are : (n : ℕ) (p : List ℤ) → list (many n any_number) (numbers_value p) ≡ Fine → AreValues n p
parameters_are n p e = many_are n any_number whole_value IsWord word_is p e

abbrev witness_value : List ℤ → Option (ℤ × List ℤ) → Data
witness_value p o = object (member (codes "clash") (clash_value o) (member (codes "p") (numbers_value p) (member (codes "point") (point_value o) no_members)))

witness_fine : (n : ℕ) (p : List ℤ) (o : Option (ℤ × List ℤ)) → length p ≡ n → All IsWord p → IsPairWithin o → witness n (witness_value p o) ≡ Fine
witness_fine n p None e h g = ap (λ v. worse (worse Fine (worse v (worse Fine Fine))) Fine) (parameters_fine n p e h)
witness_fine n p (Some pair) e h g =
    ap₂ {A = Verdict} {B = Verdict × Verdict} (λ v w. worse (worse v (worse w.0 (worse w.1 Fine))) Fine) (word_fine pair.0 g.0)
    (ap₂ (λ v w. (v, w)) (parameters_fine n p e h) (list_fine any_number whole_value IsWord word_fine pair.1 g.1))

abbrev IsWitness : ℕ → List ℤ → Option (ℤ × List ℤ) → Type 0
IsWitness n p o = AreValues n p × IsPairWithin o

witness_is : (n : ℕ) (p : List ℤ) (o : Option (ℤ × List ℤ)) → witness n (witness_value p o) ≡ Fine → IsWitness n p o
witness_is n p None e =
    let values = list (many n any_number) (numbers_value p) in
    let outer = both_are (worse values Fine) Fine e in
    (parameters_are n p (both_are values Fine outer.0).0, tt)
witness_is n p (Some pair) e =
    let clash = any_number (whole_value pair.0) in
    let values = list (many n any_number) (numbers_value p) in
    let point = list (all_of any_number) (numbers_value pair.1) in
    let outer = both_are (worse clash (worse values (worse point Fine))) Fine e in
    let first = both_are clash (worse values (worse point Fine)) outer.0 in
    let second = both_are values (worse point Fine) first.1 in
    (parameters_are n p second.0, (word_is pair.0 first.0, list_is any_number whole_value IsWord word_is pair.1 (both_are point Fine second.1).0))

mark_fine : (n : ℕ) (o : Option CertLeast) → IsMarkWithin n o → nullable (witness n) (least_value o) ≡ Fine
mark_fine n None h = refl
mark_fine n (Some l) h = witness_fine n l.p l.pair h.each h.words h.pair

mark_is : (n : ℕ) (o : Option CertLeast) → nullable (witness n) (least_value o) ≡ Fine → IsMarkWithin n o
mark_is n None e = tt
mark_is n (Some l) e = let found = witness_is n l.p l.pair e in record { each = found.0.0; words = found.0.1; pair = found.1 }

-- ---- Moduli

modulus_fine : (n : ℕ) (m : CertModulus) → IsModulusWithin n m → modulus n (modulus_value m) ≡ Fine
modulus_fine n m h =
    ap₂ (λ x y. worse x (worse y Fine)) (over_fine n 1073741824 36028797018963968 m.form (omega arith) (omega arith) (h.columns, h.small)) (mark_fine n m.least h.mark)

modulus_is : (n : ℕ) (m : CertModulus) → modulus n (modulus_value m) ≡ Fine → IsModulusWithin n m
modulus_is n m e =
    let form = list (form_over n (pos 1073741824) (pos 36028797018963968)) (form_value m.form) in
    let mark = nullable (witness n) (least_value m.least) in
    let two = both_are form (worse mark Fine) e in
    let found = over_is n 1073741824 36028797018963968 m.form two.0 in
    record { columns = found.0; small = found.1; mark = mark_is n m.least (both_are mark Fine two.1).0 }

-- ---- Folds

same_by : (b : Bool) → (if b then Fine else Shape) ≡ Fine → b ≡ true
same_by true h = refl
same_by false h = absurd (cc)

abbrev IsSame : Bool → ℕ → ℕ → Type 0
IsSame b m n = (b ≡ true) × (m ≡ n)

same_is : (n m : ℕ) (b : Bool) → same_number n (if b then Some (pos m) else None) ≡ Fine → IsSame b m n
same_is n m true e = (refl, eqb-true m n (same_by (m == n) e))
same_is n m false e = absurd (cc)

number_fine : (n m : ℕ) → m ≡ n → IsWord (pos m) → this_number n (whole_value (pos m)) ≡ Fine
number_fine n m e h = rw (lt-ltb m (2 ^ 63) (omega (arith, h)), eq-eqb m n e) refl

abbrev IsNumber : ℕ → ℕ → Type 0
IsNumber n m = (m ≡ n) × IsWord (pos m)

number_is : (n m : ℕ) → this_number n (whole_value (pos m)) ≡ Fine → IsNumber n m
number_is n m e =
    let found = same_is n m (nat_lt m (2 ^ 63)) e in
    let less = ltb-true m (2 ^ 63) found.0 in
    (found.1, omega (arith, less))

pub fold_fine : (parameters : ℕ) (t : Temporary) (f : FoldEntry) → IsFoldWithin parameters t f → fold parameters t (fold_value f) ≡ Fine
fold_fine parameters t f h =
    let moduli = many_fine t.dimensions (modulus parameters) modulus_value (IsModulusWithin parameters) (modulus_fine parameters) f.moduli h.each h.moduli in
    both_fine (this_number t.array (whole_value (pos f.array))) _ (number_fine t.array f.array h.array h.number)
    (both_fine (matrix t.dimensions (matrix_value f.inverse)) _ (matrix_fine t.dimensions f.inverse h.inverse)
    (both_fine (list (many t.dimensions (modulus parameters)) (moduli_value f.moduli)) _ moduli (both_fine (matrix t.dimensions (matrix_value f.rows)) Fine (matrix_fine t.dimensions f.rows h.rows) refl)))

pub fold_is : (parameters : ℕ) (t : Temporary) (f : FoldEntry) → fold parameters t (fold_value f) ≡ Fine → IsFoldWithin parameters t f
fold_is parameters t f e =
    let array = this_number t.array (whole_value (pos f.array)) in
    let inverse = matrix t.dimensions (matrix_value f.inverse) in
    let moduli = list (many t.dimensions (modulus parameters)) (moduli_value f.moduli) in
    let rows = matrix t.dimensions (matrix_value f.rows) in
    let first = both_are array (worse inverse (worse moduli (worse rows Fine))) e in
    let second = both_are inverse (worse moduli (worse rows Fine)) first.1 in
    let third = both_are moduli (worse rows Fine) second.1 in
    let number = number_is t.array f.array first.0 in
    let found = many_are t.dimensions (modulus parameters) modulus_value (IsModulusWithin parameters) (modulus_is parameters) f.moduli third.0 in
    record {
      array = number.0;
      number = number.1;
      rows = matrix_is t.dimensions f.rows (both_are rows Fine third.1).0;
      inverse = matrix_is t.dimensions f.inverse second.0;
      each = found.0;
      moduli = found.1;
    }
