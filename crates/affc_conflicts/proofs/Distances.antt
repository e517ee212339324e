-- The value of a distance, and of a modulus over a system's columns.
use Rattle.std.proofs.Common.{◌≡◌, ℕ, zero, suc, ◌-◌, ◌≤◌, List, [], ◌∷◌, ◌++◌, length, take, replicate, ℤ, pos, negsuc, ◌+ℤ◌, ◌-ℤ◌, ◌*ℤ◌, refl, sym, ap, subst, ◌∙◌, arith}
use Rattle.std.proofs.lemmas.Int.{ints}
use Rattle.std.proofs.lemmas.List.{length-append, length-replicate}
use Rattle.std.proofs.lemmas.List.Elements.{All-nil, All-cons, All-head, All-tail}
use Rattle.affc_rows.specs.Forms.{Affine, HaveColumns, dot, value, values_of, mixed_form, columns_of}
use Rattle.affc_rows.proofs.ValueLemmas.{value-mixed, length-mixed, value-composed, length-composed}
use Rattle.affc_basis.specs.Slices.{minus}
use Rattle.affc_conflicts.specs.Questions.{differences, distance, over_columns}

less : (a b v : ℤ) → v ≡ (pos 1 *ℤ a) +ℤ (negsuc 0 *ℤ b) → v ≡ a -ℤ b
less a b v h = omega (arith, ints)

widths : ℕ → List Affine → Type 0
widths n fs = HaveColumns n fs

values_of-differences : (n : ℕ) (xs ys : List Affine) (z : List ℤ) → HaveColumns n xs → HaveColumns n ys → length z ≡ n → values_of (differences xs ys) z ≡ minus (values_of xs z) (values_of ys z)
values_of-differences n [] ys z h k w = refl
values_of-differences n (x ∷ xs) [] z h k w = refl
values_of-differences n (x ∷ xs) (y ∷ ys) z h k w =
    let wx : length x.coefs ≡ n = All-head (λ (g : Affine). length g.coefs ≡ n) x xs h in
    let wy : length y.coefs ≡ n = All-head (λ (g : Affine). length g.coefs ≡ n) y ys k in
    let e = less (value x z) (value y z) (value (mixed_form (pos 1) x (negsuc 0) y) z) (value-mixed (pos 1) x (negsuc 0) y z (wx ∙ sym wy) (wx ∙ sym w)) in
    ap (λ v. v ∷ values_of (differences xs ys) z) e
    ∙ ap (λ vs. (value x z -ℤ value y z) ∷ vs)
    (values_of-differences n xs ys z (All-tail (λ (g : Affine). length g.coefs ≡ n) x xs h) (All-tail (λ (g : Affine). length g.coefs ≡ n) y ys k) w)

columns-differences : (n : ℕ) (xs ys : List Affine) → HaveColumns n xs → HaveColumns n ys → HaveColumns n (differences xs ys)
columns-differences n [] ys h k = All-nil (λ (g : Affine). length g.coefs ≡ n)
columns-differences n (x ∷ xs) [] h k = All-nil (λ (g : Affine). length g.coefs ≡ n)
columns-differences n (x ∷ xs) (y ∷ ys) h k =
    let wx : length x.coefs ≡ n = All-head (λ (g : Affine). length g.coefs ≡ n) x xs h in
    let wy : length y.coefs ≡ n = All-head (λ (g : Affine). length g.coefs ≡ n) y ys k in
    All-cons (λ (g : Affine). length g.coefs ≡ n) _ _ (length-mixed (pos 1) x.coefs (negsuc 0) y.coefs (wx ∙ sym wy) ∙ wx)
    (columns-differences n xs ys (All-tail (λ (g : Affine). length g.coefs ≡ n) x xs h) (All-tail (λ (g : Affine). length g.coefs ≡ n) y ys k))

pub length-differences : (xs ys : List Affine) → length ys ≡ length xs → length (differences xs ys) ≡ length xs
length-differences [] ys e = refl
length-differences (x ∷ xs) [] e = absurd (omega arith)
length-differences (x ∷ xs) (y ∷ ys) e = ap suc (length-differences xs ys (omega arith))

no_more : (v : ℤ) → v +ℤ pos 0 ≡ v
no_more v = omega (arith, ints)

module _ (row : Affine) (n : ℕ) where
  -- a row over some dimension
  pub width_of_distance : (xs ys : List Affine) → 1 ≤ length xs → length ys ≡ length xs → HaveColumns n xs → HaveColumns n ys → length (distance row xs ys).coefs ≡ n
  width_of_distance [] ys some e h k = absurd (omega arith)
  width_of_distance (x ∷ xs) [] some e h k = absurd (omega arith)
  width_of_distance (x ∷ xs) (y ∷ ys) some e h k =
      let wx : length x.coefs ≡ n = All-head (λ (g : Affine). length g.coefs ≡ n) x xs h in
      let wy : length y.coefs ≡ n = All-head (λ (g : Affine). length g.coefs ≡ n) y ys k in
      length-composed row.coefs (differences (x ∷ xs) (y ∷ ys)) 0 (columns_of (differences (x ∷ xs) (y ∷ ys)))
      ∙ length-mixed (pos 1) x.coefs (negsuc 0) y.coefs (wx ∙ sym wy) ∙ wx

  columns_are : (xs ys : List Affine) → 1 ≤ length xs → length ys ≡ length xs → HaveColumns n xs → HaveColumns n ys → columns_of (differences xs ys) ≡ n
  columns_are [] ys some e h k = absurd (omega arith)
  columns_are (x ∷ xs) [] some e h k = absurd (omega arith)
  columns_are (x ∷ xs) (y ∷ ys) some e h k =
      let wx : length x.coefs ≡ n = All-head (λ (g : Affine). length g.coefs ≡ n) x xs h in
      let wy : length y.coefs ≡ n = All-head (λ (g : Affine). length g.coefs ≡ n) y ys k in
      length-mixed (pos 1) x.coefs (negsuc 0) y.coefs (wx ∙ sym wy) ∙ wx

  pub value_of_distance : (xs ys : List Affine) (z : List ℤ) → 1 ≤ length xs → length xs ≡ length row.coefs → length ys ≡ length xs → HaveColumns n xs → HaveColumns n ys → length z ≡ n
      → value (distance row xs ys) z ≡ dot row.coefs (minus (values_of xs z) (values_of ys z))
  value_of_distance xs ys z some r e h k w =
      value-composed (record row { constant = pos 0 }) (differences xs ys) z (length-differences xs ys e ∙ r)
      (subst (λ m. HaveColumns m (differences xs ys)) (sym w) (columns-differences n xs ys h k)) (w ∙ sym (columns_are xs ys some e h k))
      ∙ no_more _ ∙ ap (dot row.coefs) (values_of-differences n xs ys z h k w)

-- ---- a modulus over more columns

pub dot-widened : (cs : List ℤ) (m : ℕ) (z : List ℤ) → dot (cs ++ replicate m (pos 0)) z ≡ dot cs (take (length cs) z)
dot-widened [] m z = zeros m z
  where
    zeros : (m : ℕ) (z : List ℤ) → dot (replicate m (pos 0)) z ≡ pos 0
    zeros zero z = refl
    zeros (suc m) [] = refl
    zeros (suc m) (x ∷ z) = omega (arith, ints, zeros m z)
dot-widened (c ∷ cs) m [] = refl
dot-widened (c ∷ cs) m (x ∷ z) = ap (λ v. (c *ℤ x) +ℤ v) (dot-widened cs m z)

pub value_over_columns : (columns : ℕ) (b : Affine) (z : List ℤ) → value (over_columns columns b) z ≡ value b (take (length b.coefs) z)
value_over_columns columns b z = ap (λ v. v +ℤ b.constant) (dot-widened b.coefs (columns - length b.coefs) z)

pub width_over_columns : (columns : ℕ) (b : Affine) → length b.coefs ≤ columns → length (over_columns columns b).coefs ≡ columns
width_over_columns columns b h =
    let e = length-append b.coefs (replicate (columns - length b.coefs) (pos 0)) in
    let l = length-replicate (columns - length b.coefs) (pos 0) in
    omega (arith, e, l)
