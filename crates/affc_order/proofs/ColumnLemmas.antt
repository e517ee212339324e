-- Lists of forms at a point: columns, and forms at their images.
use Rattle.std.proofs.Common.{◌≡◌, ℕ, zero, suc, ℤ, pos, ◌+ℤ◌, List, [], ◌∷◌, ◌++◌, length, map, replicate, refl, sym, ap, subst, ◌∙◌, arith}
use Rattle.affc_rows.specs.Forms.{Affine, value, dot, values_of, composed, HaveColumns}
use Rattle.affc_rows.proofs.ValueLemmas.{value-composed, length-composed}
use Rattle.affc_trace.specs.Inverses.{column, columns_from}
use Rattle.affc_trace.proofs.EndedReads.{append_assoc}
use Rattle.affc_trace.proofs.Recovers.{length-unit_row, value-column}
use Rattle.affc_domain.proofs.FormLemmas.{number_value}
use Rattle.affc_domain.proofs.ColumnLemmas.{no_columns, more_columns, first_columns, later_columns, cons_is}
use Rattle.affc_domain.proofs.Lists.{length_push, at_seam}
use Rattle.affc_order.specs.Posed.{form_at}

-- ---- Forms at their images

empty_coefs : (cs : List ℤ) (n : ℕ) → 0 ≡ length cs → composed cs [] 0 n ≡ replicate n (pos 0)
empty_coefs [] n e = zeros 0 n
  where
    zeros : (j n : ℕ) → composed [] [] j n ≡ replicate n (pos 0)
    zeros j zero = refl
    zeros j (suc n) = ap (λ z. pos 0 ∷ z) (zeros (suc j) n)
empty_coefs (c ∷ cs) n e = absurd (omega arith)

pub at_value : (images : List Affine) (f : Affine) (xs : List ℤ) → length images ≡ length f.coefs → HaveColumns (length xs) images
    → value (form_at (length xs) images f) xs ≡ value f (values_of images xs)
at_value [] f xs e h =
    ap (λ cs. value (record { coefs = cs; constant = dot f.coefs [] +ℤ f.constant }) xs) (empty_coefs f.coefs (length xs) e)
    ∙ number_value (length xs) (dot f.coefs [] +ℤ f.constant) xs
at_value (g ∷ gs) f xs e h =
    let w : length g.coefs ≡ length xs = first_columns (length xs) g gs h in
    ap (λ n. value (form_at n (g ∷ gs) f) xs) (sym w) ∙ value-composed f (g ∷ gs) xs e h (sym w)

pub at_values : (images fs : List Affine) (xs : List ℤ) → HaveColumns (length images) fs → HaveColumns (length xs) images
    → values_of (map (form_at (length xs) images) fs) xs ≡ values_of fs (values_of images xs)
at_values images [] xs e h = refl
at_values images (f ∷ fs) xs e h =
    cons_is (value (form_at (length xs) images f) xs) (value f (values_of images xs)) (values_of (map (form_at (length xs) images) fs) xs) (values_of fs (values_of images xs))
    (at_value images f xs (sym (first_columns (length images) f fs e)) h) (at_values images fs xs (later_columns (length images) f fs e) h)

pub at_width : (columns : ℕ) (images fs : List Affine) → HaveColumns columns (map (form_at columns images) fs)
at_width columns images [] = no_columns columns
at_width columns images (f ∷ fs) = more_columns columns (form_at columns images f) (map (form_at columns images) fs) (length-composed f.coefs images 0 columns) (at_width columns images fs)

-- ---- Columns

pub from_width : (columns first n : ℕ) → HaveColumns columns (columns_from columns first n)
from_width columns first zero = no_columns columns
from_width columns first (suc n) = more_columns columns (column columns first) (columns_from columns (suc first) n) (length-unit_row columns first) (from_width columns (suc first) n)

pub from_long : (columns first n : ℕ) → length (columns_from columns first n) ≡ n
from_long columns first zero = refl
from_long columns first (suc n) = ap suc (from_long columns (suc first) n)

-- some columns of a point in the middle of it
pub segment : (us bs cs : List ℤ) → values_of (columns_from (length (us ++ (bs ++ cs))) (length us) (length bs)) (us ++ (bs ++ cs)) ≡ bs
segment us [] cs = refl
segment us (b ∷ bs) cs =
    let zs : List ℤ = us ++ b ∷ (bs ++ cs) in
    let same : (us ++ b ∷ []) ++ (bs ++ cs) ≡ zs = append_assoc us (b ∷ []) (bs ++ cs) in
    cons_is (value (column (length zs) (length us)) zs) b (values_of (columns_from (length zs) (suc (length us)) (length bs)) zs) bs
    (value-column (length zs) (length us) zs refl ∙ at_seam us b (bs ++ cs))
    (subst (λ n. values_of (columns_from (length zs) n (length bs)) zs ≡ bs) (length_push us b)
    (subst (λ ys. values_of (columns_from (length ys) (length (us ++ b ∷ [])) (length bs)) ys ≡ bs) same (segment (us ++ b ∷ []) bs cs)))

-- the same, where the point and the numbers are given otherwise
pub segment_at : (zs us bs cs : List ℤ) (n k m : ℕ) → zs ≡ us ++ (bs ++ cs) → n ≡ length zs → k ≡ length us → m ≡ length bs → values_of (columns_from n k m) zs ≡ bs
segment_at zs us bs cs n k m is e f g =
    ap (λ a. values_of (columns_from a k m) zs) e ∙ ap (λ a. values_of (columns_from (length zs) a m) zs) f ∙ ap (λ a. values_of (columns_from (length zs) (length us) a) zs) g
    ∙ subst (λ ys. values_of (columns_from (length ys) (length us) (length bs)) ys ≡ bs) (sym is) (segment us bs cs)
