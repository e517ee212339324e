-- Forms within limits, and over more columns.
use Rattle.std.proofs.Common.{◌≡◌, ℕ, ◌+◌, ◌≤◌, List, [], ◌∷◌, length, map, arith}
use Rattle.std.specs.List.{All}
use Rattle.std.proofs.lemmas.List.Elements.{All-nil, All-cons, All-head, All-tail, All-weaker, All-map}
use Rattle.affc_rows.specs.Forms.{Affine, HaveColumns}
use Rattle.affc_rows.specs.Sizes.{IsWithin}
use Rattle.affc_rows.proofs.SizeLemmas.{padded_within, spread_within}
use Rattle.affc_domain.proofs.ColumnLemmas.{first_columns, later_columns}
use Rattle.affc_order.specs.Spread.{spread}
use Rattle.affc_quast.specs.Leaves.{padded}
use Rattle.affc_quast.specs.Limits.{Bounds, FitsForm}

pub all_map : {A B : Type 0} (P : A → Type 0) (Q : B → Type 0) (f : A → B) → ((x : A) → P x → Q (f x)) → (xs : List A) → All P xs → All Q (map f xs)
all_map P Q f h xs all = All-map Q f xs (All-weaker P (λ x. Q (f x)) h xs all)

-- ---- Forms of trees

pub form_within : (b : Bounds) (n : ℕ) (f : Affine) → length f.coefs ≡ n → FitsForm b f → IsWithin n b.coefs b.constants f
form_within b n f e h = record { width = e; coefs_fit = h.coefs_fit; constant_fits = h.constant_fits }

pub forms_within : (b : Bounds) (n : ℕ) (fs : List Affine) → HaveColumns n fs → All (FitsForm b) fs → All (IsWithin n b.coefs b.constants) fs
forms_within b n [] w g = All-nil (IsWithin n b.coefs b.constants)
forms_within b n (f ∷ fs) w g =
    All-cons (IsWithin n b.coefs b.constants) f fs (form_within b n f (first_columns n f fs w) (All-head (FitsForm b) f fs g)) (forms_within b n fs (later_columns n f fs w) (All-tail (FitsForm b) f fs g))

-- ---- More columns

pub all_padded : (m n a k : ℕ) (fs : List Affine) → m ≤ n → All (IsWithin m a k) fs → All (IsWithin n a k) (map (padded n) fs)
all_padded m n a k fs h all = all_map (IsWithin m a k) (IsWithin n a k) (padded n) (λ f w. padded_within m n a k f h w) fs all

pub all_spread : (m between l n a k : ℕ) (fs : List Affine) → (m + between) + l ≡ n → All (IsWithin (m + l) a k) fs → All (IsWithin n a k) (map (spread m between 0) fs)
all_spread m between l n a k fs e all =
    all_map (IsWithin (m + l) a k) (IsWithin n a k) (spread m between 0) (λ f w. spread_within m between l 0 n a k f w (none ((m + between) + l) e)) fs all
  where
    none : (x : ℕ) → x ≡ n → x + 0 ≡ n
    none x e = omega (arith, e)
