-- Forms that are composed in a pair of lists.
use Rattle.std.proofs.Common.{◌≡◌, ℕ, zero, suc, ◌+◌, ◌-◌, ◌<◌, Bool, true, false, ◌&&◌, nat_lt, List, [], ◌∷◌, ◌++◌, length, get_or, slice_get, Option, Some, refl, sym, ap, ◌∙◌, subst, arith, length-append}
use Rattle.std.specs.Prelude.{nat_le, nat_abs, ◌^◌}
use Rattle.std.proofs.lemmas.Bool.{and_parts, and_from, ltb-true, ltb-false}
use Rattle.std.proofs.lemmas.List.Elements.{All-append}
use Rattle.affc_rows.specs.Forms.{Affine, HaveColumns, columns_of, composed_form}
use Rattle.affc_trace.specs.Inverses.{column, columns_from, unit_row, zeros, GivesColumn, AreInverse}
use Rattle.affc_trace.specs.Target.{are_slight, all_slight}
use Rattle.affc_schedtext.proofs.Scheduled.{within}
use Rattle.affc_plan.specs.Composed.{IsComposable}
use Rattle.affc_plan.specs.Maps.{ArePair}
use Rattle.affc_plan.specs.Operands.{is_slight}
use Rattle.affc_plan.proofs.Composing.{slight_fits, images_slight}

abbrev pub images_of : (forms inverse : List Affine) → List Affine
images_of forms inverse = columns_from (columns_of forms) 0 (columns_of forms - length inverse) ++ forms

zeros_long : (n : ℕ) → length (zeros n) ≡ n
zeros_long zero = refl
zeros_long (suc n) = ap suc (zeros_long n)

unit_long : (n j : ℕ) → length (unit_row n j) ≡ n
unit_long zero j = refl
unit_long (suc n) zero = ap suc (zeros_long n)
unit_long (suc n) (suc j) = ap suc (unit_long n j)

columns_wide : (n j m : ℕ) → HaveColumns n (columns_from n j m)
columns_wide n j zero k d h = absurd (omega (arith, h))
columns_wide n j (suc m) zero d h = unit_long n j
columns_wide n j (suc m) (suc k) d h = columns_wide n (suc j) m k d (omega (arith, h))

columns_long : (n j m : ℕ) → length (columns_from n j m) ≡ m
columns_long n j zero = refl
columns_long n j (suc m) = ap suc (columns_long n (suc j) m)

pub images_columns : (forms inverse : List Affine) → columns_of (images_of forms inverse) ≡ columns_of forms
images_columns forms inverse = by (columns_of forms - length inverse)
  where
    by : (m : ℕ) → columns_of (columns_from (columns_of forms) 0 m ++ forms) ≡ columns_of forms
    by zero = refl
    by (suc m) = unit_long (columns_of forms) 0

slight_at : (fs : List Affine) (k : ℕ) (f : Affine) → all_slight fs ≡ true → slice_get fs k ≡ Some f → is_slight f ≡ true
slight_at [] k f h e = absurd (cc)
slight_at (x ∷ fs) zero f h e =
    let a = and_parts (nat_le (nat_abs x.constant) (2 ^ 30) && are_slight x.coefs) (all_slight fs) h in
    let same : x ≡ f = cc in
    ap is_slight (sym same) ∙ and_from (nat_le (nat_abs x.constant) (2 ^ 30) && are_slight x.coefs) true a.0 refl
slight_at (x ∷ fs) (suc k) f h e = slight_at fs k f (and_parts (nat_le (nat_abs x.constant) (2 ^ 30) && are_slight x.coefs) (all_slight fs) h).1 e

width_at : (n : ℕ) (fs : List Affine) (k : ℕ) (f : Affine) → HaveColumns n fs → slice_get fs k ≡ Some f → length f.coefs ≡ n
width_at n [] k f h e = absurd (cc)
width_at n (x ∷ fs) zero f h e = let same : x ≡ f = cc in ap (λ (g : Affine). length g.coefs) (sym same) ∙ h 0 x (omega arith)
width_at n (x ∷ fs) (suc k) f h e = width_at n fs k f (λ j d lt. h (suc j) d (omega (arith, lt))) e

pub composable : (forms inverse : List Affine) (k : ℕ) (g : Affine) → ArePair forms inverse → slice_get inverse k ≡ Some g → IsComposable g (images_of forms inverse)
composable forms inverse k g p e =
    let n = columns_of forms in
    let m = n - length inverse in
    let wide : length g.coefs ≡ m + length forms = width_at (m + length forms) inverse k g p.inverse_shaped e in
    let long : length (images_of forms inverse) ≡ m + length forms = length-append (columns_from n 0 m) forms ∙ ap (λ z. z + length forms) (columns_long n 0 m) in
    record {
      one_each = long ∙ sym wide;
      columns = subst (λ z. HaveColumns z (images_of forms inverse)) (sym (images_columns forms inverse)) (All-append (λ (f : Affine). length f.coefs ≡ n) (columns_from n 0 m) forms (columns_wide n 0 m) p.shaped);
      fits = slight_fits g (images_of forms inverse) (let a = p.few_columns in let b = p.few_forms in omega (arith, wide, a, b)) (slight_at inverse k g p.inverse_slight e) (images_slight n 0 m forms p.slight);
    }

-- ---- One inverse form after the other

pub got_at : (xs : List Affine) (k : ℕ) (g : Affine) → k < length xs → g ≡ get_or xs k g → slice_get xs k ≡ Some g
got_at [] k g h e = absurd (omega (arith, h))
got_at (x ∷ xs) zero g h e = ap (λ y. Some y) (sym e)
got_at (x ∷ xs) (suc k) g h e = got_at xs k g (omega (arith, h)) e

same_got : (xs : List Affine) (k : ℕ) (g h : Affine) → slice_get xs k ≡ Some g → slice_get xs k ≡ Some h → g ≡ h
same_got xs k g h e f = let both : ◌≡◌ {A = Option Affine} (Some g) (Some h) = sym e ∙ f in cc

module _ (forms inverse : List Affine) (k : ℕ) (g : Affine) (lt : k < length inverse) (e : g ≡ get_or inverse k g) where
  abbrev at_column : Affine
  at_column = column (columns_of forms) (columns_of forms - length inverse + k)

  pub gives_here : composed_form g (images_of forms inverse) ≡ at_column → GivesColumn inverse (images_of forms inverse) (columns_of forms - length inverse) k
  gives_here h = λ f q.
      ap (λ (x : Affine). composed_form x (images_of forms inverse)) (same_got inverse k f g q (got_at inverse k g lt e)) ∙ h ∙ ap (λ n. column n (columns_of forms - length inverse + k)) (sym (images_columns forms inverse))

  pub lost_here : (composed_form g (images_of forms inverse) ≡ at_column → ⊥) → ¬ (GivesColumn inverse (images_of forms inverse) (columns_of forms - length inverse) k)
  lost_here h = λ q. h (q g (got_at inverse k g lt e) ∙ ap (λ n. column n (columns_of forms - length inverse + k)) (images_columns forms inverse))

pub given_all : (forms inverse : List Affine) → ((j : ℕ) → j < length inverse → GivesColumn inverse (images_of forms inverse) (columns_of forms - length inverse) j) → AreInverse forms inverse
given_all forms inverse h = λ k. λ g e. h k (within inverse k g e) g e

pub given_more : (forms inverse : List Affine) (k : ℕ) → ((j : ℕ) → j < k → GivesColumn inverse (images_of forms inverse) (columns_of forms - length inverse) j)
    → GivesColumn inverse (images_of forms inverse) (columns_of forms - length inverse) k → (j : ℕ) → j < k + 1 → GivesColumn inverse (images_of forms inverse) (columns_of forms - length inverse) j
given_more forms inverse k h here j lt = by (nat_lt j k) refl
  where
    by : (b : Bool) → nat_lt j k ≡ b → GivesColumn inverse (images_of forms inverse) (columns_of forms - length inverse) j
    by true e = h j (ltb-true j k e)
    by false e = let same : k ≡ j = let ge = ltb-false j k e in omega (arith, lt) in subst (λ i. GivesColumn inverse (images_of forms inverse) (columns_of forms - length inverse) i) same here
