-- Columns as forms.
use Rattle.std.proofs.Common.{◌≡◌, ℕ, zero, suc, ◌+◌, ℤ, pos, List, [], ◌∷◌, ◌++◌, replicate, refl, sym, ap, ◌∙◌, arith}
use Rattle.affc_rows.specs.Forms.{Affine}
use Rattle.affc_trace.specs.Inverses.{zeros, unit_row, column, columns_from}
use Rattle.affc_domain.specs.Affine.{unit_of}
use Rattle.affc_nest.specs.Domains.{column_form}

zeros_are : (n : ℕ) → replicate n (pos 0) ≡ zeros n
zeros_are zero = refl
zeros_are (suc n) = ap (λ l. pos 0 ∷ l) (zeros_are n)

pub unit_is : (n j : ℕ) → unit_of n j ≡ unit_row n j
unit_is zero j = refl
unit_is (suc n) zero = ap (λ l. pos 1 ∷ l) (zeros_are n)
unit_is (suc n) (suc j) = ap (λ l. pos 0 ∷ l) (unit_is n j)

pub column_is : (n j : ℕ) → column_form n j ≡ column n j
column_is n j = ap (λ (cs : List ℤ). let f : Affine = record { coefs = cs; constant = pos 0 } in f) (unit_is n j)

more_columns : (n j m : ℕ) → columns_from n j (suc m) ≡ columns_from n j m ++ column n (j + m) ∷ []
more_columns n j zero = ap (λ k. column n k ∷ []) (let e : j ≡ j + 0 = omega arith in e)
more_columns n j (suc m) = ap (λ l. column n j ∷ l) (more_columns n (suc j) m ∙ ap (λ k. columns_from n (suc j) m ++ column n k ∷ []) (let e : suc j + m ≡ j + suc m = omega arith in e))

pub one_more : (n i : ℕ) → columns_from n 0 (i + 1) ≡ columns_from n 0 i ++ column_form n i ∷ []
one_more n i =
    let e : i + 1 ≡ suc i = omega arith in
    let f : 0 + i ≡ i = omega arith in
    ap (columns_from n 0) e ∙ more_columns n 0 i ∙ ap (λ k. columns_from n 0 i ++ column n k ∷ []) f ∙ ap (λ g. columns_from n 0 i ++ g ∷ []) (sym (column_is n i))

pub column_parts : (f : Affine) (n j : ℕ) → f.constant ≡ pos 0 → f.coefs ≡ unit_of n j → f ≡ column n j
column_parts f n j e h = (λ i. record { coefs = (h ∙ unit_is n j) i; constant = e i })

pub parts_of_column : (f : Affine) (n j : ℕ) → f ≡ column n j → (f.constant ≡ pos 0) × (f.coefs ≡ unit_of n j)
parts_of_column f n j e = (ap (λ (g : Affine). g.constant) e, ap (λ (g : Affine). g.coefs) e ∙ sym (unit_is n j))
