-- Forms with slight images stay within the limits of a system's rows.
use Rattle.std.proofs.Common.{◌≡◌, ℕ, zero, suc, ◌+◌, ◌*◌, ◌^◌, ◌≤◌, pos, ◌+ℤ◌, List, [], ◌∷◌, length, get_or, sym, subst, arith}
use Rattle.std.specs.Prelude.{unsigned_abs}
use Rattle.std.specs.List.{All}
use Rattle.std.proofs.lemmas.List.Elements.{All-nil, All-cons, All-head, All-tail}
use Rattle.affc_rows.specs.Forms.{Affine, dot, dot_magnitude, column_of, constants_of, composed}
use Rattle.affc_rows.specs.Sizes.{IsWithin}
use Rattle.affc_rows.specs.Vocabulary.{form_at}
use Rattle.affc_rows.proofs.IntLemmas.{abs-add}
use Rattle.affc_rows.proofs.SizeLemmas.{Below, dot_below, dot_abs, entry_below, column_within, gap_within}
use Rattle.affc_rows.proofs.ValueLemmas.{length-composed}
use Rattle.affc_system.specs.Systems.{IsRow}
use Rattle.affc_system.proofs.SystemLemmas.{row_of}
use Rattle.affc_nest.specs.Domains.{column_form, gap_row}
use Rattle.affc_nest.specs.Wide.{IsWide}
use Rattle.affc_order.specs.Placed.{AreImages}
use Rattle.affc_order.proofs.ImageLemmas as of_image
use Rattle.affc_loopends.specs.Sizes.{IsSlight, IsNear}

-- ---- The entries of images

column_slight : (n j : ℕ) (gs : List Affine) → All (IsSlight n) gs → Below 256 (column_of j gs)
column_slight n j [] h = All-nil (λ d. unsigned_abs d ≤ 256)
column_slight n j (g ∷ gs) h =
    All-cons (λ d. unsigned_abs d ≤ 256) (get_or g.coefs j (pos 0)) (column_of j gs) (entry_below 256 g.coefs j (All-head (IsSlight n) g gs h).coefs_fit) (column_slight n j gs (All-tail (IsSlight n) g gs h))

constants_slight : (n : ℕ) (gs : List Affine) → All (IsSlight n) gs → Below (2 ^ 30) (constants_of gs)
constants_slight n [] h = All-nil (λ d. unsigned_abs d ≤ 2 ^ 30)
constants_slight n (g ∷ gs) h = All-cons (λ d. unsigned_abs d ≤ 2 ^ 30) g.constant (constants_of gs) (All-head (IsSlight n) g gs h).constant_fits (constants_slight n gs (All-tail (IsSlight n) g gs h))

-- ---- Compositions

-- a row of a domain or a form of a schedule with such images
abbrev pub IsComposed : ℕ → Affine → Type 0
IsComposed columns = IsWithin columns (2 ^ 30) (2 ^ 52)

module _ (columns : ℕ) (images : List Affine) (few : length images ≤ 10) (slight : All (IsSlight columns) images) (f : Affine) (near : IsNear (length images) f) where
  column_few : (j : ℕ) → dot_magnitude f.coefs (column_of j images) ≤ 2 ^ 30
  column_few j = sum (length f.coefs) (length images) (dot_magnitude f.coefs (column_of j images)) near.width few (dot_below (2 ^ 17) 256 f.coefs (column_of j images) near.coefs_fit (column_slight columns j images slight))
    where
      sum : (m n d : ℕ) → m ≡ n → n ≤ 10 → d ≤ m * (2 ^ 17 * 256) → d ≤ 2 ^ 30
      sum m n d e k h = omega (arith, e, k, h)

  constant_few : dot_magnitude f.coefs (constants_of images) ≤ 2 ^ 51
  constant_few =
      sum (length f.coefs) (length images) (dot_magnitude f.coefs (constants_of images)) near.width few (dot_below (2 ^ 17) (2 ^ 30) f.coefs (constants_of images) near.coefs_fit (constants_slight columns images slight))
    where
      sum : (m n d : ℕ) → m ≡ n → n ≤ 10 → d ≤ m * (2 ^ 17 * 2 ^ 30) → d ≤ 2 ^ 51
      sum m n d e k h = omega (arith, e, k, h)

  composed_small : (j n : ℕ) → Below (2 ^ 30) (composed f.coefs images j n)
  composed_small j zero = All-nil (λ c. unsigned_abs c ≤ 2 ^ 30)
  composed_small j (suc n) =
      All-cons (λ c. unsigned_abs c ≤ 2 ^ 30) (dot f.coefs (column_of j images)) (composed f.coefs images (suc j) n)
      (through (unsigned_abs (dot f.coefs (column_of j images))) (dot_magnitude f.coefs (column_of j images)) (dot_abs f.coefs (column_of j images)) (column_few j)) (composed_small (suc j) n)
    where
      through : (a d : ℕ) → a ≤ d → d ≤ 2 ^ 30 → a ≤ 2 ^ 30
      through a d h g = omega (arith, h, g)

  pub is_composed : IsComposed columns (form_at columns images f)
  is_composed = record {
    width = length-composed f.coefs images 0 columns;
    coefs_fit = composed_small 0 columns;
    constant_fits = sum (unsigned_abs (dot f.coefs (constants_of images) +ℤ f.constant)) (unsigned_abs (dot f.coefs (constants_of images))) (dot_magnitude f.coefs (constants_of images)) (unsigned_abs f.constant)
        (abs-add (dot f.coefs (constants_of images)) f.constant) (dot_abs f.coefs (constants_of images)) constant_few near.constant_fits;
  }
    where
      sum : (a d m k : ℕ) → a ≤ d + k → d ≤ m → m ≤ 2 ^ 51 → k ≤ 2 ^ 34 → a ≤ 2 ^ 52
      sum a d m k e h g i = omega (arith, e, h, g, i)

-- ---- Rows

pub composed_row : (n : ℕ) (f : Affine) → IsComposed n f → IsRow n f
composed_row n f c = row_of n (2 ^ 30) (2 ^ 52) f (omega arith) (omega arith) c

pub gap_is_row : (n : ℕ) (a b : Affine) → IsComposed n a → IsComposed n b → IsRow n (gap_row a b 0)
gap_is_row n a b s t = row_of n (2 ^ 30 + 2 ^ 30) ((2 ^ 52 + 2 ^ 52) + 1) (gap_row a b 0) (omega arith) (omega arith) (gap_within n (2 ^ 30) (2 ^ 52) 0 a b s t (omega arith))

-- ---- What the code has made

pub image_wide : (columns : ℕ) (images : List Affine) (f made : Affine) → AreImages columns images → IsRow (length images) f → made ≡ form_at columns images f → IsWide columns made
image_wide columns images f made are row e = subst (IsWide columns) (sym e) (of_image.image_wide columns images are f row)

pub column_wide : (n j : ℕ) (made : Affine) → made ≡ column_form n j → IsWide n made
column_wide n j made e = subst (IsWide n) (sym e) (column_within n (2 ^ 110) (2 ^ 110) j (omega arith))
