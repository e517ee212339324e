-- Which forms are wide, and which differences keep the limits of rows.
use Rattle.std.proofs.Common.{◌≡◌, ℕ, suc, ◌+◌, ◌*◌, ◌^◌, ◌≤◌, ℤ, pos, negsuc, List, [], ◌∷◌, ◌++◌, length, FitsSigned, w64, arith, ap, ap₂, ◌∙◌}
use Rattle.std.specs.Prelude.{unsigned_abs}
use Rattle.std.specs.List.{All}
use Rattle.std.proofs.lemmas.List.Elements.{All-nil, All-cons, All-append}
use Rattle.affc_rows.specs.Forms.{Affine, mixed_form, value}
use Rattle.affc_rows.specs.Sizes.{IsWithin}
use Rattle.affc_rows.proofs.SizeLemmas.{Below, within_raised, number_within, column_within, padded_within, difference_within, gap_within, dot_within}
use Rattle.affc_rows.proofs.IntLemmas.{abs-add}
use Rattle.affc_system.specs.Pairs.{IsSubscript}
use Rattle.affc_system.specs.Systems.{FitsRow, IsRow}
use Rattle.affc_system.proofs.SystemLemmas.{row_of}
use Rattle.affc_basis.specs.Moduli.{IsModulus}
use Rattle.affc_nest.specs.Domains.{gap_row, number_form, column_form, range_rows, box_rows}
use Rattle.affc_nest.specs.Sides.{NearRanges}
use Rattle.affc_nest.specs.Wide.{IsWide}
use Rattle.affc_nest.proofs.RowLemmas.{column_side, number_side, gap_is_row}
use Rattle.affc_nest.proofs.WideLemmas.{added_twice, within_64}
use Rattle.affc_conflicts.specs.Questions.{over_columns}
use Rattle.affc_questions.specs.Asked.{IsModulusOver}
use Rattle.affc_questions.specs.Sizes.{IsMild}

-- ---- Mild and wide forms

pub mild_wide : (n : ℕ) (f : Affine) → IsMild n f → IsWide n f
mild_wide n f m = within_raised n (2 ^ 38) (2 ^ 58) (2 ^ 110) (2 ^ 110) f (omega arith) (omega arith) m

pub mild_row : (n : ℕ) (f : Affine) → IsMild n f → IsRow n f
mild_row n f m = row_of n (2 ^ 38) (2 ^ 58) f (omega arith) (omega arith) m

pub subscript_wide : (n : ℕ) (f : Affine) → IsSubscript n f → IsWide n f
subscript_wide n f s = within_raised n 65536 16777216 (2 ^ 110) (2 ^ 110) f (omega arith) (omega arith) s

pub column_wide : (n j : ℕ) → IsWide n (column_form n j)
column_wide n j = column_within n (2 ^ 110) (2 ^ 110) j (omega arith)

pub number_mild : (n : ℕ) (z : ℤ) → unsigned_abs z ≤ 1 → IsMild n (number_form n z)
number_mild n z h = number_within n (2 ^ 38) (2 ^ 58) z (omega (arith, h))

pub word_wide : (n : ℕ) (z : ℤ) → FitsSigned w64 z → IsWide n (number_form n z)
word_wide n z h = number_within n (2 ^ 110) (2 ^ 110) z (more (unsigned_abs z) (within_64 z h))
  where
    more : (n : ℕ) → n ≤ 2 ^ 63 → n ≤ 2 ^ 110
    more n h = omega (arith, h)

-- ---- Moduli

pub modulus_mild : (n : ℕ) (b : Affine) → IsModulus n b → IsMild n b
modulus_mild n b m = within_raised n (2 ^ 30) (2 ^ 55) (2 ^ 38) (2 ^ 58) b (omega arith) (omega arith) m

pub modulus_wide : (n : ℕ) (b : Affine) → IsModulus n b → IsWide n b
modulus_wide n b m = mild_wide n b (modulus_mild n b m)

pub modulus_fits : (n : ℕ) (b : Affine) → IsModulus n b → FitsRow b
modulus_fits n b m = (mild_row n b (modulus_mild n b m)).fits

over_within : (n : ℕ) (b : Affine) → IsModulusOver n b → IsWithin n (2 ^ 30) (2 ^ 55) (over_columns n b)
over_within n b m = padded_within (length b.coefs) n (2 ^ 30) (2 ^ 55) b m.parameters m.fits

-- at a point of machine integers
pub value_wide : (n : ℕ) (b : Affine) (p : List ℤ) → n ≤ 128 → IsModulus n b → Below (2 ^ 63) p → IsWide n (number_form n (value b p))
value_wide n b p few m h =
    number_within n (2 ^ 110) (2 ^ 110) (value b p)
    (sum (unsigned_abs (value b p)) _ (unsigned_abs b.constant) (abs-add _ b.constant) (dot_within (2 ^ 30) (2 ^ 63) 128 b.coefs p m.coefs_fit h (at_most (length b.coefs) m.width)) m.constant_fits)
  where
    at_most : (l : ℕ) → l ≡ n → l ≤ 128
    at_most l e = omega (arith, e, few)

    sum : (v d k : ℕ) → v ≤ d + k → d ≤ 128 * (2 ^ 30 * 2 ^ 63) → k ≤ 2 ^ 55 → v ≤ 2 ^ 110
    sum v d k a g i = omega (arith, a, g, i)

-- ---- Differences

-- the row b - a - k of mild forms
pub gap_row_fits : (n : ℕ) (a b : Affine) (k : ℕ) → IsMild n a → IsMild n b → k ≤ 1 → IsRow n (gap_row a b k)
gap_row_fits n a b k s t h = row_of n (2 ^ 38 + 2 ^ 38) ((2 ^ 58 + 2 ^ 58) + 1) (gap_row a b k) (omega arith) (omega arith) (gap_within n (2 ^ 38) (2 ^ 58) k a b s t h)

-- a modulus less 1
pub less_one_mild : (n : ℕ) (b : Affine) → IsModulusOver n b → IsMild n (mixed_form (pos 1) (over_columns n b) (negsuc 0) (number_form n (pos 1)))
less_one_mild n b m =
    let one : Affine = number_form n (pos 1) in
    within_raised n (2 ^ 30 + 2 ^ 30) (2 ^ 55 + 2 ^ 55) (2 ^ 38) (2 ^ 58) (mixed_form (pos 1) (over_columns n b) (negsuc 0) one) (omega arith) (omega arith)
    (difference_within n (2 ^ 30) (2 ^ 55) (over_columns n b) one (over_within n b m) (number_within n (2 ^ 30) (2 ^ 55) (pos 1) (omega arith)))

-- the difference of two subscripts
pub subscripts_within : (n : ℕ) (x y : Affine) → IsSubscript n x → IsSubscript n y → IsWithin n (2 ^ 25) (2 ^ 25) (mixed_form (pos 1) x (negsuc 0) y)
subscripts_within n x y s t =
    within_raised n (65536 + 65536) (16777216 + 16777216) (2 ^ 25) (2 ^ 25) (mixed_form (pos 1) x (negsuc 0) y) (omega arith) (omega arith) (difference_within n 65536 16777216 x y s t)

-- ---- Ranges

range_fit : (n j : ℕ) (r : ℤ × ℤ) → unsigned_abs r.0 ≤ 2 ^ 32 → unsigned_abs r.1 ≤ 2 ^ 32 → All (IsRow n) (range_rows n j r)
range_fit n j r h g =
    All-cons (IsRow n) (gap_row (number_form n r.0) (column_form n j) 0) (gap_row (column_form n j) (number_form n r.1) 0 ∷ []) (gap_is_row n (number_form n r.0) (column_form n j) 0 (number_side n r.0 h) (column_side n j) (omega arith))
    (All-cons (IsRow n) (gap_row (column_form n j) (number_form n r.1) 0) [] (gap_is_row n (column_form n j) (number_form n r.1) 0 (column_side n j) (number_side n r.1 g) (omega arith)) (All-nil (IsRow n)))

pub box_fit : (n j : ℕ) (rs : List (ℤ × ℤ)) → NearRanges rs → All (IsRow n) (box_rows n j rs)
box_fit n j [] h = All-nil (IsRow n)
box_fit n j (r ∷ rs) h = All-append (IsRow n) (range_rows n j r) (box_rows n (suc j) rs) (range_fit n j r h.0 h.1) (box_fit n (suc j) rs h.2)

-- the rows that a column is in a range, one after the other
pub range_made : (n j : ℕ) (low high least most : ℤ) (at : Affine) (old mid new : List Affine) → at ≡ column_form n j → least ≡ low → most ≡ high → mid ≡ old ++ gap_row (number_form n least) at 0 ∷ [] → new ≡ mid ++ gap_row at (number_form n most) 0 ∷ []
    → new ≡ old ++ range_rows n j (low, high)
range_made n j low high least most at old mid new e l m f g =
    let both : Affine → ℤ → ℤ → List Affine = λ h a b. old ++ gap_row (number_form n a) h 0 ∷ gap_row h (number_form n b) 0 ∷ [] in
    g ∙ (ap (λ zs. zs ++ gap_row at (number_form n most) 0 ∷ []) f ∙ (added_twice old (gap_row (number_form n least) at 0 ∷ []) (gap_row at (number_form n most) 0 ∷ []) ∙ (ap (λ h. both h least most) e ∙ ap₂ (λ a b. both (column_form n j) a b) l m)))
