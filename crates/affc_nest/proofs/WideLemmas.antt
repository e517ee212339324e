-- Differences of forms don't leave the range of the code's numbers.
use Rattle.std.proofs.Common.{◌≡◌, ℕ, ◌+◌, ◌^◌, ◌≤◌, ℤ, pos, negsuc, List, [], ◌∷◌, ◌++◌, replicate, ap, ◌∙◌, FitsSigned, w64, arith}
use Rattle.std.proofs.lemmas.Int.{ints}
use Rattle.std.specs.Prelude.{unsigned_abs}
use Rattle.std.specs.List.{All}
use Rattle.std.proofs.lemmas.List.Elements.{All-nil, All-cons, All-append, All-weaker}
use Rattle.affc_rows.specs.Forms.{Affine, mixed_form_magnitudes, TooWide}
use Rattle.affc_rows.proofs.SizeLemmas as within
use Rattle.affc_rows.proofs.SizeLemmas.{number_within, within_raised, widened_within}
use Rattle.affc_system.specs.Systems.{IsRow}
use Rattle.affc_system.proofs.SystemLemmas.{row_within}
use Rattle.affc_trace.proofs.EndedReads.{append_assoc}
use Rattle.affc_trace.proofs.Runs.{length_append}
use Rattle.affc_nest.specs.Domains.{number_form}
use Rattle.affc_nest.specs.Questions.{widened}
use Rattle.affc_nest.specs.Divisions.{multiple}
use Rattle.affc_nest.specs.Wide.{IsWide}

pub not_too_wide : (n : ℕ) (a b : Affine) → IsWide n a → IsWide n b → TooWide (mixed_form_magnitudes (pos 1) b (negsuc 0) a) → ⊥
not_too_wide n a b s t w = within.not_too_wide n (2 ^ 110) (2 ^ 110) b a (omega arith) (omega arith) t s w

pub added_twice : (xs ys zs : List Affine) → (xs ++ ys) ++ zs ≡ xs ++ (ys ++ zs)
added_twice xs ys zs = append_assoc xs ys zs

-- ---- Forms of tests and divisions

pub number_wide : (n : ℕ) (z : ℤ) → unsigned_abs z ≤ 2 ^ 110 → IsWide n (number_form n z)
number_wide n z h = number_within n (2 ^ 110) (2 ^ 110) z h

pub none_wide : (n : ℕ) → IsWide n (number_form n (pos 0))
none_wide n = number_wide n (pos 0) (omega arith)

pub row_wide : (n : ℕ) (f : Affine) → IsRow n f → IsWide n f
row_wide n f r = within_raised n (2 ^ 40) (2 ^ 60) (2 ^ 110) (2 ^ 110) f (omega arith) (omega arith) (row_within n f r)

pub rows_wide : (n : ℕ) (fs : List Affine) → All (IsRow n) fs → All (IsWide n) fs
rows_wide n fs all = All-weaker (IsRow n) (IsWide n) (λ f r. row_wide n f r) fs all

-- whatever i64 holds
pub multiple_wide : (n : ℕ) (by constant : ℤ) → unsigned_abs by ≤ 2 ^ 63 → unsigned_abs constant ≤ 2 ^ 63 → IsWide (n + 1) (multiple n by constant)
multiple_wide n by constant h g =
    let z = number_wide n (pos 0) (omega arith) in
    record {
      width = length_append (replicate n (pos 0)) (by ∷ []) ∙ ap (λ k. k + 1) z.width;
      coefs_fit = All-append (λ c. unsigned_abs c ≤ 2 ^ 110) (replicate n (pos 0)) (by ∷ []) z.coefs_fit
          (All-cons (λ c. unsigned_abs c ≤ 2 ^ 110) by [] (more (unsigned_abs by) h) (All-nil (λ c. unsigned_abs c ≤ 2 ^ 110)));
      constant_fits = more (unsigned_abs constant) g;
    }
  where
    more : (m : ℕ) → m ≤ 2 ^ 63 → m ≤ 2 ^ 110
    more m h = omega (arith, h)

pub widened_wide : (n : ℕ) (f : Affine) → IsWide n f → IsWide (n + 1) (widened 1 f)
widened_wide n f w = widened_within n 1 (2 ^ 110) (2 ^ 110) f w

pub within_64 : (z : ℤ) → FitsSigned w64 z → unsigned_abs z ≤ 2 ^ 63
within_64 (pos n) h = omega (arith, ints, h)
within_64 (negsuc n) h = omega (arith, ints, h)
