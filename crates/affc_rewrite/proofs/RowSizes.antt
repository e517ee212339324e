-- A row of subscripts is printed within the limits of printed forms.
use Rattle.std.proofs.Common.{◌≡◌, ℕ, zero, suc, ◌+◌, ◌*◌, ◌^◌, ◌<◌, ◌≤◌, ℤ, ◌+ℤ◌, List, length, get_or, ap, ◌∙◌, inl, inr, arith}
use Rattle.std.specs.Prelude.{unsigned_abs}
use Rattle.affc_rows.specs.Forms.{Affine, dot, dot_magnitude, columns_of, column_of, constants_of, composed, composed_form, composed_magnitudes, composed_form_magnitudes, TooWide}
use Rattle.affc_rows.proofs.FormLemmas.{length-column_of, length-constants_of}
use Rattle.affc_basis.specs.Bases.{AreWithin}
use Rattle.affc_basis.specs.Moduli.{IsModulus}
use Rattle.affc_loops.proofs.Sizes.{many, many_more}
use Rattle.affc_rewrite.specs.Sizes.{AllSides, IsRow, IsPrintable}
use Rattle.affc_rewrite.proofs.PrintedForms.{dot_below, few_below, columns_known, column_within, constants_within, most_coef, composed_within, no_more, row_width}

within_more : (xs : List ℤ) (m n : ℕ) → m ≤ n → AreWithin m xs → AreWithin n xs
within_more xs m n h w = λ i x l. let k : unsigned_abs (get_or xs i x) ≤ m = w i x l in omega arith

few_terms : (cs xs : List ℤ) (c x : ℕ) → AreWithin c cs → AreWithin x xs → length xs ≤ 4 → dot_magnitude cs xs ≤ many 4 (c * x)
few_terms cs xs c x h k l =
    let d : dot_magnitude cs xs ≤ many (length xs) (c * x) = dot_below cs xs c x h k in
    let m : many (length xs) (c * x) ≤ many 4 (c * x) = many_more (length xs) 4 (c * x) l in
    omega arith

coefs_fit : (cs : List ℤ) (n : ℕ) (gs : List Affine) → AreWithin 256 cs → AllSides n gs → length gs ≤ 4 → (j m : ℕ) → TooWide (composed_magnitudes cs gs j m) → ⊥
coefs_fit cs n gs h s few j zero w = w
coefs_fit cs n gs h s few j (suc m) (inl w) =
    let long : length (column_of j gs) ≡ length gs = length-column_of j gs in
    let d : dot_magnitude cs (column_of j gs) ≤ many 4 (256 * 2 ^ 16) = few_terms cs (column_of j gs) 256 (2 ^ 16) h (column_within n j gs s) (omega arith) in
    let k : 2 ^ 126 < dot_magnitude cs (column_of j gs) = w in
    omega arith
coefs_fit cs n gs h s few j (suc m) (inr w) = coefs_fit cs n gs h s few (suc j) m w

-- the sums on the way are no wider than forms may be
pub row_fits : (n : ℕ) (row : Affine) (gs : List Affine) → IsRow (length gs) row → AllSides n gs → length gs ≤ 4 → TooWide (composed_form_magnitudes row gs) → ⊥
row_fits n row gs is s few (inl w) =
    let long : length (constants_of gs) ≡ length gs = length-constants_of gs in
    let d : dot_magnitude row.coefs (constants_of gs) ≤ many 4 (256 * 2 ^ 32) = few_terms row.coefs (constants_of gs) 256 (2 ^ 32) is.bounded (constants_within n gs s) (omega arith) in
    let c : unsigned_abs row.constant ≡ 0 = ap unsigned_abs is.no_constant in
    let k : 2 ^ 126 < dot_magnitude row.coefs (constants_of gs) + unsigned_abs row.constant = w in
    omega arith
row_fits n row gs is s few (inr w) = coefs_fit row.coefs n gs is.bounded s few 0 (columns_of gs) w

pub row_printable : (n : ℕ) (row : Affine) (gs : List Affine) → IsRow (length gs) row → AllSides n gs → 1 ≤ length gs → length gs ≤ 4 → n ≤ 16 → IsPrintable n (composed_form row gs)
row_printable n row gs is s some few short =
    let long : length (constants_of gs) ≡ length gs = length-constants_of gs in
    let c : unsigned_abs (dot row.coefs (constants_of gs)) ≤ many 4 (256 * 2 ^ 32) = few_below row.coefs (constants_of gs) 256 (2 ^ 32) 4 is.bounded (constants_within n gs s) (omega arith) in
    let k : unsigned_abs (dot row.coefs (constants_of gs) +ℤ row.constant) ≡ unsigned_abs (dot row.coefs (constants_of gs)) = ap unsigned_abs (no_more (dot row.coefs (constants_of gs)) row.constant is.no_constant) in
    record {
      width = row_width row gs ∙ columns_known n gs s some;
      few = short;
      coefs = within_more (composed row.coefs gs 0 (columns_of gs)) most_coef (2 ^ 30) (omega arith) (composed_within row.coefs n gs is.bounded s few 0 (columns_of gs));
      constant = omega arith;
    }

-- so is a modulus
pub modulus_printable : (n : ℕ) (b : Affine) → n ≤ 4 → IsModulus n b → IsPrintable n b
modulus_printable n b few is = record { width = is.width; few = omega arith; coefs = is.coefs_fit; constant = is.constant_fits }
