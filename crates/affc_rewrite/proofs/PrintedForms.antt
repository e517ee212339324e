-- Forms as they are printed have their values, and are read.
use Rattle.std.proofs.Common.{◌≡◌, ℕ, zero, suc, ◌+◌, ◌*◌, ◌^◌, ◌<◌, ◌≤◌, ℤ, pos, ◌+ℤ◌, List, [], ◌∷◌, ◌++◌, length, get_or, sym, ap, ◌∙◌, arith}
use Rattle.std.specs.Prelude.{unsigned_abs}
use Rattle.std.proofs.lemmas.Int.{ints}
use Rattle.std.proofs.lemmas.List.Elements.{All-nil, All-cons}
use Rattle.affc_rows.specs.Forms.{Affine, dot, dot_magnitude, value, magnitude, HaveColumns, columns_of, column_of, constants_of, values_of, composed, composed_form}
use Rattle.affc_rows.proofs.SizeLemmas.{dot_abs, entry_below}
use Rattle.affc_rows.proofs.FormLemmas.{length-column_of, length-constants_of}
use Rattle.affc_rows.proofs.ValueLemmas.{length-composed, value-composed}
use Rattle.affc_ast.specs.Fits.{whole}
use Rattle.affc_trace.proofs.LastStores.{append_nil}
use Rattle.affc_safe.specs.Overflow.{IsReadable}
use Rattle.affc_loops.proofs.FormReads.{form_reads}
use Rattle.affc_loops.proofs.FormTrees.{form_is}
use Rattle.affc_loops.proofs.Sizes.{many, product_below, many_more}
use Rattle.affc_basis.specs.Bases.{AreWithin}
use Rattle.affc_basis.specs.Moduli.{IsModulus}
use Rattle.affc_rewrite.specs.Rewrite.{printed}
use Rattle.affc_rewrite.specs.Sizes.{AllSides, IsRow}

-- ---- A form, over the first names and those behind them

pub printed_is : (f : Affine) (p xs after : List ℤ) (first : ℕ) → first ≡ length p → length f.coefs ≡ length p + length xs → whole (printed first f) (p ++ (xs ++ after)) ≡ value f (p ++ xs)
printed_is f p xs after first e l = form_is f p [] xs after first first e (e ∙ sym (ap length (append_nil p))) l

pub printed_reads : (f : Affine) (p xs after : List ℤ) (first : ℕ) → first ≡ length p → length f.coefs ≡ length p + length xs → magnitude f (p ++ xs) < 2 ^ 63 → IsReadable (printed first f) (p ++ (xs ++ after))
printed_reads f p xs after first e l m = form_reads f p [] xs after first first e (e ∙ sym (ap length (append_nil p))) l m

-- ---- Magnitudes

pub dot_below : (cs xs : List ℤ) (c x : ℕ) → AreWithin c cs → AreWithin x xs → dot_magnitude cs xs ≤ many (length xs) (c * x)
dot_below [] xs c x h k = omega arith
dot_below (a ∷ cs) [] c x h k = omega arith
dot_below (a ∷ cs) (y ∷ xs) c x h k =
    let first : unsigned_abs a * unsigned_abs y ≤ c * x = product_below (unsigned_abs a) (unsigned_abs y) c x (h 0 a (omega arith)) (k 0 y (omega arith)) in
    let rest : dot_magnitude cs xs ≤ many (length xs) (c * x) = dot_below cs xs c x (λ i z m. h (suc i) z (omega arith)) (λ i z m. k (suc i) z (omega arith)) in
    omega arith

pub few_below : (cs xs : List ℤ) (c x n : ℕ) → AreWithin c cs → AreWithin x xs → length xs ≤ n → unsigned_abs (dot cs xs) ≤ many n (c * x)
few_below cs xs c x n h k l =
    let v : unsigned_abs (dot cs xs) ≤ dot_magnitude cs xs = dot_abs cs xs in
    let d : dot_magnitude cs xs ≤ many (length xs) (c * x) = dot_below cs xs c x h k in
    let m : many (length xs) (c * x) ≤ many n (c * x) = many_more (length xs) n (c * x) l in
    omega arith

-- ---- A modulus at the parameters

pub modulus_below : (b : Affine) (p : List ℤ) → IsModulus (length p) b → length p ≤ 4 → AreWithin (2 ^ 24) p → magnitude b p < 2 ^ 63
modulus_below b p is few near =
    let d : dot_magnitude b.coefs p ≤ many (length p) (2 ^ 30 * 2 ^ 24) = dot_below b.coefs p (2 ^ 30) (2 ^ 24) is.coefs_fit near in
    let m : many (length p) (2 ^ 30 * 2 ^ 24) ≤ many 4 (2 ^ 30 * 2 ^ 24) = many_more (length p) 4 (2 ^ 30 * 2 ^ 24) few in
    let c : unsigned_abs b.constant ≤ 2 ^ 55 = is.constant_fits in
    omega arith

-- ---- A row of the subscripts' forms

pub have_columns : (n : ℕ) (gs : List Affine) → AllSides n gs → HaveColumns n gs
have_columns n [] h = All-nil (λ g. length g.coefs ≡ n)
have_columns n (g ∷ gs) h = All-cons (λ g. length g.coefs ≡ n) g gs (h.0).width (have_columns n gs h.1)

pub columns_known : (n : ℕ) (gs : List Affine) → AllSides n gs → 1 ≤ length gs → columns_of gs ≡ n
columns_known n [] h l = absurd (omega arith)
columns_known n (g ∷ gs) h l = (h.0).width

pub column_within : (n j : ℕ) (gs : List Affine) → AllSides n gs → AreWithin (2 ^ 16) (column_of j gs)
column_within n j [] h = All-nil (λ c. unsigned_abs c ≤ 2 ^ 16)
column_within n j (g ∷ gs) h = All-cons (λ c. unsigned_abs c ≤ 2 ^ 16) (get_or g.coefs j (pos 0)) (column_of j gs) (entry_below (2 ^ 16) g.coefs j (h.0).coefs_fit) (column_within n j gs h.1)

pub constants_within : (n : ℕ) (gs : List Affine) → AllSides n gs → AreWithin (2 ^ 32) (constants_of gs)
constants_within n [] h = All-nil (λ c. unsigned_abs c ≤ 2 ^ 32)
constants_within n (g ∷ gs) h = All-cons (λ c. unsigned_abs c ≤ 2 ^ 32) g.constant (constants_of gs) (h.0).constant_fits (constants_within n gs h.1)

abbrev pub most_coef : ℕ
most_coef = many 4 (256 * 2 ^ 16)

pub composed_within : (cs : List ℤ) (n : ℕ) (gs : List Affine) → AreWithin 256 cs → AllSides n gs → length gs ≤ 4 → (j m : ℕ) → AreWithin most_coef (composed cs gs j m)
composed_within cs n gs h s few j zero = All-nil (λ c. unsigned_abs c ≤ most_coef)
composed_within cs n gs h s few j (suc m) =
    let long : length (column_of j gs) ≡ length gs = length-column_of j gs in
    All-cons (λ c. unsigned_abs c ≤ most_coef) (dot cs (column_of j gs)) (composed cs gs (suc j) m)
    (few_below cs (column_of j gs) 256 (2 ^ 16) 4 h (column_within n j gs s) (omega arith)) (composed_within cs n gs h s few (suc j) m)

pub no_more : (z c : ℤ) → c ≡ pos 0 → z +ℤ c ≡ z
no_more z c e = ap (λ c. z +ℤ c) e ∙ same z
  where
    same : (z : ℤ) → z +ℤ pos 0 ≡ z
    same z = omega (arith, ints)

pub row_below : (row : Affine) (gs : List Affine) (names : List ℤ) (n : ℕ) → IsRow (length gs) row → AllSides n gs → length gs ≤ 4 → length names ≤ 10 → AreWithin (2 ^ 31) names
    → magnitude (composed_form row gs) names < 2 ^ 63
row_below row gs names n is s few short near =
    let cs : List ℤ = composed row.coefs gs 0 (columns_of gs) in
    let d : dot_magnitude cs names ≤ many (length names) (most_coef * 2 ^ 31) = dot_below cs names most_coef (2 ^ 31) (composed_within row.coefs n gs is.bounded s few 0 (columns_of gs)) near in
    let m : many (length names) (most_coef * 2 ^ 31) ≤ many 10 (most_coef * 2 ^ 31) = many_more (length names) 10 (most_coef * 2 ^ 31) short in
    let long : length (constants_of gs) ≡ length gs = length-constants_of gs in
    let c : unsigned_abs (dot row.coefs (constants_of gs)) ≤ many 4 (256 * 2 ^ 32) = few_below row.coefs (constants_of gs) 256 (2 ^ 32) 4 is.bounded (constants_within n gs s) (omega arith) in
    let k : unsigned_abs (dot row.coefs (constants_of gs) +ℤ row.constant) ≡ unsigned_abs (dot row.coefs (constants_of gs)) = ap unsigned_abs (no_more (dot row.coefs (constants_of gs)) row.constant is.no_constant) in
    omega arith

-- its value is the row's at the values of the subscripts
pub row_value : (row : Affine) (gs : List Affine) (names : List ℤ) → IsRow (length gs) row → AllSides (length names) gs → length names ≡ columns_of gs
    → value (composed_form row gs) names ≡ dot row.coefs (values_of gs names)
row_value row gs names is s l =
    value-composed row gs names (sym is.columns) (have_columns (length names) gs s) l ∙ no_more (dot row.coefs (values_of gs names)) row.constant is.no_constant

pub row_width : (row : Affine) (gs : List Affine) → length (composed_form row gs).coefs ≡ columns_of gs
row_width row gs = length-composed row.coefs gs 0 (columns_of gs)
