-- The value of an expression's form is the expression's value.
use Rattle.std.proofs.Common.{◌≡◌, ℕ, zero, suc, ◌+◌, ℤ, pos, negsuc, ◌+ℤ◌, ◌*ℤ◌, ◌-ℤ◌, neg_ℤ, Bool, true, false, IsTrue, List, [], ◌∷◌, ◌++◌, length, replicate, get_or, refl, sym, ap, ◌∙◌, subst, arith, ◌⊎◌, inl, inr, ◌≤◌}
use Rattle.std.specs.Prelude.{not, ◌&&◌, ◌||◌, if◌then◌else◌, nat_le, nat_abs, unsigned_abs}
use Rattle.std.specs.List.{All}
use Rattle.std.proofs.lemmas.Bool.{leb-true}
use Rattle.std.proofs.lemmas.Int.{ints}
use Rattle.std.proofs.lemmas.List.{length-replicate}
use Rattle.std.proofs.lemmas.List.Elements.{All-nil, All-cons}
use lib.IntN.{*ℤ_comm}
use Rattle.affc_rows.specs.Forms.{Affine, value, dot, mixed_form}
use Rattle.affc_rows.proofs.ValueLemmas.{value-mixed, dot-mixed, length-mixed}
use Rattle.affc_rows.proofs.VocabularyLemmas.{unit_width}
use Rattle.affc_ast.specs.declared.tree.Ix.{Ix}
use Rattle.affc_ast.specs.declared.tree.Ix.TheVariants as c
use Rattle.affc_ast.specs.declared.tree.Ix.TheBlock.{more_of-Ix, end_of-Ix}
use Rattle.affc_ast.specs.Fits.{whole}
use Rattle.affc_trace.specs.Target.{are_slight}
use Rattle.affc_trace.proofs.Runs.{length_append}
use Rattle.affc_domain.specs.Laws.{FormsHaveTheValue}
use Rattle.affc_domain.specs.Affine.{unit_of, Linear, linear, negative, mixture, multiple, form_of, is_affine}
use Rattle.affc_domain.proofs.Lists.{both_true}

pub dot_zeros : (n : ℕ) (xs : List ℤ) → dot (replicate n (pos 0)) xs ≡ pos 0
dot_zeros zero xs = refl
dot_zeros (suc n) [] = refl
dot_zeros (suc n) (x ∷ xs) = omega (arith, ints, dot_zeros n xs)

-- further coefficients of 0 give the same
pub dot_widened : (cs xs ys : List ℤ) (n : ℕ) → length cs ≡ length xs → dot (cs ++ replicate n (pos 0)) (xs ++ ys) ≡ dot cs xs
dot_widened [] [] ys n l = dot_zeros n ys
dot_widened [] (x ∷ xs) ys n l = absurd (omega arith)
dot_widened (c ∷ cs) [] ys n l = absurd (omega arith)
dot_widened (c ∷ cs) (x ∷ xs) ys n l = omega (arith, ints, dot_widened cs xs ys n (omega arith))

-- the form of a name gives the name's value
dot_unit : (names more : List ℤ) (x n : ℕ) → dot (unit_of (length names) x ++ replicate n (pos 0)) (names ++ more) ≡ get_or names x (pos 0)
dot_unit [] more x n = dot_zeros n more
dot_unit (y ∷ names) more zero n = one_alone y names more n
  where
    zeros : (names more : List ℤ) (n : ℕ) → dot (replicate (length names) (pos 0) ++ replicate n (pos 0)) (names ++ more) ≡ pos 0
    zeros [] more n = dot_zeros n more
    zeros (y ∷ names) more n = omega (arith, ints, zeros names more n)

    one_alone : (y : ℤ) (names more : List ℤ) (n : ℕ) → (pos 1 *ℤ y) +ℤ dot (replicate (length names) (pos 0) ++ replicate n (pos 0)) (names ++ more) ≡ y
    one_alone y names more n = omega (arith, ints, zeros names more n)
dot_unit (y ∷ names) more (suc x) n = omega (arith, ints, dot_unit names more x n)

-- ---- The number of coefficients

pub form_width : (n m : ℕ) (e : Ix) → length (form_of n m e).coefs ≡ n + m
form_width n m (c.Lit k) = length-replicate (n + m) (pos 0)
form_width n m (c.Name x) = length_append (unit_of n x.0) (replicate m (pos 0)) ∙ ap (λ z. z + length (replicate m (pos 0))) (unit_width n x.0) ∙ ap (λ z. n + z) (length-replicate m (pos 0))
form_width n m (c.Neg' s (more_of-Ix a end_of-Ix)) = length-mixed (negsuc 0) _ (pos 0) _ refl ∙ form_width n m a
form_width n m (c.Add' s (more_of-Ix a end_of-Ix) t (more_of-Ix b end_of-Ix)) = length-mixed (pos 1) _ (pos 1) _ (form_width n m a ∙ sym (form_width n m b)) ∙ form_width n m a
form_width n m (c.Sub' s (more_of-Ix a end_of-Ix) t (more_of-Ix b end_of-Ix)) = length-mixed (pos 1) _ (negsuc 0) _ (form_width n m a ∙ sym (form_width n m b)) ∙ form_width n m a
form_width n m (c.Mul' s (more_of-Ix a end_of-Ix) t (more_of-Ix b end_of-Ix)) = product_width (linear n m a) (linear n m b) (form_width n m a) (form_width n m b)
  where
    product_width : (a b : Linear) → length a.form.coefs ≡ n + m → length b.form.coefs ≡ n + m → length (multiple a b).form.coefs ≡ n + m
    product_width a b p q = elim (a.named) as (λ x. length (if x then mixed_form b.form.constant a.form (pos 0) b.form else mixed_form (pos 0) a.form a.form.constant b.form).coefs ≡ n + m) [
      | true ↦ length-mixed b.form.constant a.form.coefs (pos 0) b.form.coefs (p ∙ sym q) ∙ p
      | false ↦ length-mixed (pos 0) a.form.coefs a.form.constant b.form.coefs (p ∙ sym q) ∙ p
    ]
form_width n m (c.Min' s (more_of-Ix a end_of-Ix) t (more_of-Ix b end_of-Ix)) = form_width n m a
form_width n m (c.Max' s (more_of-Ix a end_of-Ix) t (more_of-Ix b end_of-Ix)) = form_width n m a
form_width n m (c.Floord' s (more_of-Ix a end_of-Ix) k) = form_width n m a
form_width n m (c.Ceild' s (more_of-Ix a end_of-Ix) k) = form_width n m a
form_width n m (c.Mod' s (more_of-Ix a end_of-Ix) t (more_of-Ix b end_of-Ix)) = form_width n m a

-- ---- Whether it is affine and whether it holds names doesn't rest on the columns

same_product : (a b a' b' : Linear) → a.affine ≡ a'.affine → b.affine ≡ b'.affine → a.named ≡ a'.named → b.named ≡ b'.named
    → (multiple a b).affine ≡ (multiple a' b').affine
same_product a b a' b' e f g h = rw (e, f, g, h) refl

pub same_named : (n m n' m' : ℕ) (e : Ix) → (linear n m e).named ≡ (linear n' m' e).named
same_named n m n' m' (c.Lit k) = refl
same_named n m n' m' (c.Name x) = refl
same_named n m n' m' (c.Neg' s (more_of-Ix a end_of-Ix)) = same_named n m n' m' a
same_named n m n' m' (c.Add' s (more_of-Ix a end_of-Ix) t (more_of-Ix b end_of-Ix)) = rw (same_named n m n' m' a, same_named n m n' m' b) refl
same_named n m n' m' (c.Sub' s (more_of-Ix a end_of-Ix) t (more_of-Ix b end_of-Ix)) = rw (same_named n m n' m' a, same_named n m n' m' b) refl
same_named n m n' m' (c.Mul' s (more_of-Ix a end_of-Ix) t (more_of-Ix b end_of-Ix)) = rw (same_named n m n' m' a, same_named n m n' m' b) refl
same_named n m n' m' (c.Min' s (more_of-Ix a end_of-Ix) t (more_of-Ix b end_of-Ix)) = same_named n m n' m' a
same_named n m n' m' (c.Max' s (more_of-Ix a end_of-Ix) t (more_of-Ix b end_of-Ix)) = same_named n m n' m' a
same_named n m n' m' (c.Floord' s (more_of-Ix a end_of-Ix) k) = same_named n m n' m' a
same_named n m n' m' (c.Ceild' s (more_of-Ix a end_of-Ix) k) = same_named n m n' m' a
same_named n m n' m' (c.Mod' s (more_of-Ix a end_of-Ix) t (more_of-Ix b end_of-Ix)) = same_named n m n' m' a

pub same_affine : (n m n' m' : ℕ) (e : Ix) → (linear n m e).affine ≡ (linear n' m' e).affine
same_affine n m n' m' (c.Lit k) = refl
same_affine n m n' m' (c.Name x) = refl
same_affine n m n' m' (c.Neg' s (more_of-Ix a end_of-Ix)) = same_affine n m n' m' a
same_affine n m n' m' (c.Add' s (more_of-Ix a end_of-Ix) t (more_of-Ix b end_of-Ix)) = rw (same_affine n m n' m' a, same_affine n m n' m' b) refl
same_affine n m n' m' (c.Sub' s (more_of-Ix a end_of-Ix) t (more_of-Ix b end_of-Ix)) = rw (same_affine n m n' m' a, same_affine n m n' m' b) refl
same_affine n m n' m' (c.Mul' s (more_of-Ix a end_of-Ix) t (more_of-Ix b end_of-Ix)) =
    same_product (linear n m a) (linear n m b) (linear n' m' a) (linear n' m' b) (same_affine n m n' m' a) (same_affine n m n' m' b) (same_named n m n' m' a) (same_named n m n' m' b)
same_affine n m n' m' (c.Min' s (more_of-Ix a end_of-Ix) t (more_of-Ix b end_of-Ix)) = refl
same_affine n m n' m' (c.Max' s (more_of-Ix a end_of-Ix) t (more_of-Ix b end_of-Ix)) = refl
same_affine n m n' m' (c.Floord' s (more_of-Ix a end_of-Ix) k) = refl
same_affine n m n' m' (c.Ceild' s (more_of-Ix a end_of-Ix) k) = refl
same_affine n m n' m' (c.Mod' s (more_of-Ix a end_of-Ix) t (more_of-Ix b end_of-Ix)) = refl

-- ---- Values

left_true : (a b : Bool) → IsTrue (a && b) → IsTrue a
left_true true b h = refl
left_true false b h = absurd (cc)

right_true : (a b : Bool) → IsTrue (a && b) → IsTrue b
right_true true b h = h
right_true false b h = absurd (cc)

pub three : (a b d : Bool) → IsTrue (a && b && d) → IsTrue a × IsTrue b × IsTrue d
three true true true h = (refl, refl, refl)
three true true false h = absurd (cc)
three true false d h = absurd (cc)
three false b d h = absurd (cc)

-- what is known of an expression's form at a point: it is the expression's value, and a constant where the expression holds no name
record Right (names more : List ℤ) (a : Linear) (z : ℤ) : Type 0 where
  width : length a.form.coefs ≡ length (names ++ more)
  gives : value a.form (names ++ more) ≡ z
  fixed : a.named ≡ false → dot a.form.coefs (names ++ more) ≡ pos 0

both_false : (a b : Bool) → (a || b) ≡ false → (a ≡ false) × (b ≡ false)
both_false true b h = absurd (cc)
both_false false b h = (refl, h)

mixed_right : (s t : ℤ) (names more : List ℤ) (a b : Linear) (x y : ℤ) → Right names more a x → Right names more b y → Right names more (mixture s a t b) ((s *ℤ x) +ℤ (t *ℤ y))
mixed_right s t names more a b x y r q = record {
  width = length-mixed _ _ _ _ (r.width ∙ sym q.width) ∙ r.width;
  gives = value-mixed s a.form t b.form (names ++ more) (r.width ∙ sym q.width) r.width ∙ ap (λ z. (s *ℤ z) +ℤ (t *ℤ value b.form (names ++ more))) r.gives ∙ ap (λ z. (s *ℤ x) +ℤ (t *ℤ z)) q.gives;
  fixed = λ h. let k = both_false a.named b.named h in
      dot-mixed s a.form.coefs t b.form.coefs (names ++ more) (r.width ∙ sym q.width) r.width
      ∙ ap (λ z. (s *ℤ z) +ℤ (t *ℤ dot b.form.coefs (names ++ more))) (r.fixed k.0) ∙ ap (λ z. (s *ℤ pos 0) +ℤ (t *ℤ z)) (q.fixed k.1) ∙ zero_sum s t;
}
  where
    zero_sum : (s t : ℤ) → (s *ℤ pos 0) +ℤ (t *ℤ pos 0) ≡ pos 0
    zero_sum s t = omega (arith, ints)

neg_right : (names more : List ℤ) (a : Linear) (x : ℤ) → Right names more a x → Right names more (negative a) (neg_ℤ x)
neg_right names more a x r = record {
  width = length-mixed (negsuc 0) a.form.coefs (pos 0) a.form.coefs refl ∙ r.width;
  gives = value-mixed (negsuc 0) a.form (pos 0) a.form (names ++ more) refl r.width ∙ ap (λ z. (negsuc 0 *ℤ z) +ℤ (pos 0 *ℤ z)) r.gives ∙ negated x;
  fixed = λ h. dot-mixed (negsuc 0) a.form.coefs (pos 0) a.form.coefs (names ++ more) refl r.width ∙ ap (λ z. (negsuc 0 *ℤ z) +ℤ (pos 0 *ℤ z)) (r.fixed h);
}
  where
    negated : (x : ℤ) → (negsuc 0 *ℤ x) +ℤ (pos 0 *ℤ x) ≡ neg_ℤ x
    negated x = omega (arith, ints)

-- a product one side of which is a constant
product_right : (names more : List ℤ) (a b : Linear) (x y : ℤ) → Right names more a x → Right names more b y → IsTrue (not (a.named && b.named)) → Right names more (multiple a b) (x *ℤ y)
product_right names more a b x y r q one = elim (bool_cases a.named) [
  | inl yes_a ↦ left yes_a
  | inr no_a ↦ right no_a
]
  where
    bool_cases : (b : Bool) → (b ≡ true) ⊎ (b ≡ false)
    bool_cases true = inl refl
    bool_cases false = inr refl

    not_both : (a b : Bool) → a ≡ true → IsTrue (not (a && b)) → b ≡ false
    not_both true true e h = absurd (cc)
    not_both true false e h = refl
    not_both false b e h = absurd (cc)

    turned : (u v : ℤ) → (v *ℤ u) +ℤ (pos 0 *ℤ v) ≡ u *ℤ v
    turned u v = ap (λ z. z +ℤ (pos 0 *ℤ v)) (*ℤ_comm v u) ∙ omega (arith, ints)

    true_named : (a b : Bool) → a ≡ true → (a || b) ≡ false → ⊥
    true_named true b e h = absurd (cc)
    true_named false b e h = absurd (cc)

    nothing : (u w : ℤ) → (pos 0 *ℤ u) +ℤ (w *ℤ pos 0) ≡ pos 0
    nothing u w = omega (arith, ints)

    constant_is : (f : Affine) (xs : List ℤ) (z : ℤ) → dot f.coefs xs ≡ pos 0 → value f xs ≡ z → f.constant ≡ z
    constant_is f xs z d v = omega (arith, ints)

    right_zero : (u v w : ℤ) → w ≡ v → (w *ℤ u) +ℤ (pos 0 *ℤ v) ≡ u *ℤ v
    right_zero u v w e = ap (λ z. (z *ℤ u) +ℤ (pos 0 *ℤ v)) e ∙ turned u v

    left_zero : (u v w : ℤ) → w ≡ u → (pos 0 *ℤ u) +ℤ (w *ℤ v) ≡ u *ℤ v
    left_zero u v w e = ap (λ z. (pos 0 *ℤ u) +ℤ (z *ℤ v)) e ∙ omega (arith, ints)

    at : List ℤ
    at = names ++ more

    left : a.named ≡ true → Right names more (multiple a b) (x *ℤ y)
    left e =
        let f : b.named ≡ false = not_both a.named b.named e one in
        let k : b.form.constant ≡ y = constant_is b.form (names ++ more) y (q.fixed f) q.gives in
        let s : (multiple a b).form ≡ mixed_form b.form.constant a.form (pos 0) b.form = ap (λ t. if t then mixed_form b.form.constant a.form (pos 0) b.form else mixed_form (pos 0) a.form a.form.constant b.form) e in
        record {
          width = ap (λ (g : Affine). length g.coefs) s ∙ length-mixed b.form.constant a.form.coefs (pos 0) b.form.coefs (r.width ∙ sym q.width) ∙ r.width;
          gives = ap (λ g. value g (names ++ more)) s ∙ value-mixed b.form.constant a.form (pos 0) b.form (names ++ more) (r.width ∙ sym q.width) r.width
              ∙ ap (λ z. (b.form.constant *ℤ z) +ℤ (pos 0 *ℤ value b.form (names ++ more))) r.gives ∙ ap (λ z. (b.form.constant *ℤ x) +ℤ (pos 0 *ℤ z)) q.gives
              ∙ right_zero x y b.form.constant k;
          fixed = λ h. absurd (true_named a.named b.named e h);
        }

    right : a.named ≡ false → Right names more (multiple a b) (x *ℤ y)
    right e =
        let k : a.form.constant ≡ x = constant_is a.form (names ++ more) x (r.fixed e) r.gives in
        let s : (multiple a b).form ≡ mixed_form (pos 0) a.form a.form.constant b.form = ap (λ t. if t then mixed_form b.form.constant a.form (pos 0) b.form else mixed_form (pos 0) a.form a.form.constant b.form) e in
        record {
          width = ap (λ (g : Affine). length g.coefs) s ∙ length-mixed (pos 0) a.form.coefs a.form.constant b.form.coefs (r.width ∙ sym q.width) ∙ r.width;
          gives = ap (λ g. value g (names ++ more)) s ∙ value-mixed (pos 0) a.form a.form.constant b.form (names ++ more) (r.width ∙ sym q.width) r.width
              ∙ ap (λ z. (pos 0 *ℤ z) +ℤ (a.form.constant *ℤ value b.form (names ++ more))) r.gives ∙ ap (λ z. (pos 0 *ℤ x) +ℤ (a.form.constant *ℤ z)) q.gives
              ∙ left_zero x y a.form.constant k;
          fixed = λ h. let n = both_false a.named b.named h in
              ap (λ (g : Affine). dot g.coefs (names ++ more)) s
              ∙ dot-mixed (pos 0) a.form.coefs a.form.constant b.form.coefs (names ++ more) (r.width ∙ sym q.width) r.width
              ∙ ap (λ z. (pos 0 *ℤ dot a.form.coefs (names ++ more)) +ℤ (a.form.constant *ℤ z)) (q.fixed n.1) ∙ nothing (dot a.form.coefs (names ++ more)) a.form.constant;
        }

-- the form of an affine expression gives its value, at the visible names and whatever comes after them
is_right : (names more : List ℤ) (e : Ix) → IsTrue (linear (length names) (length more) e).affine → Right names more (linear (length names) (length more) e) (whole e names)
is_right names more (c.Lit k) h = record {
  width = length-replicate _ (pos 0) ∙ sym (length_append names more);
  gives = omega (arith, ints, dot_zeros (length names + length more) (names ++ more));
  fixed = λ _. dot_zeros (length names + length more) (names ++ more);
}
is_right names more (c.Name x) h = record {
  width = form_width (length names) (length more) (c.Name x) ∙ sym (length_append names more);
  gives = omega (arith, ints, dot_unit names more x.0 (length more));
  fixed = λ n. absurd (cc);
}
is_right names more (c.Neg' s (more_of-Ix a end_of-Ix)) h = neg_right names more (linear (length names) (length more) a) (whole a names) (is_right names more a h)
is_right names more (c.Add' s (more_of-Ix a end_of-Ix) t (more_of-Ix b end_of-Ix)) h = added (whole a names) (whole b names)
    (mixed_right (pos 1) (pos 1) names more (linear (length names) (length more) a) (linear (length names) (length more) b) (whole a names) (whole b names)
    (is_right names more a (left_true _ _ h)) (is_right names more b (right_true (linear (length names) (length more) a).affine _ h)))
  where
    added : (x y : ℤ) → Right names more (mixture (pos 1) (linear (length names) (length more) a) (pos 1) (linear (length names) (length more) b)) ((pos 1 *ℤ x) +ℤ (pos 1 *ℤ y)) → Right names more (mixture (pos 1) (linear (length names) (length more) a) (pos 1) (linear (length names) (length more) b)) (x +ℤ y)
    added x y r = subst (λ z. Right names more (mixture (pos 1) (linear (length names) (length more) a) (pos 1) (linear (length names) (length more) b)) z) (omega (arith, ints)) r
is_right names more (c.Sub' s (more_of-Ix a end_of-Ix) t (more_of-Ix b end_of-Ix)) h = taken (whole a names) (whole b names)
    (mixed_right (pos 1) (negsuc 0) names more (linear (length names) (length more) a) (linear (length names) (length more) b) (whole a names) (whole b names)
    (is_right names more a (left_true _ _ h)) (is_right names more b (right_true (linear (length names) (length more) a).affine _ h)))
  where
    taken : (x y : ℤ) → Right names more (mixture (pos 1) (linear (length names) (length more) a) (negsuc 0) (linear (length names) (length more) b)) ((pos 1 *ℤ x) +ℤ (negsuc 0 *ℤ y)) → Right names more (mixture (pos 1) (linear (length names) (length more) a) (negsuc 0) (linear (length names) (length more) b)) (x -ℤ y)
    taken x y r = subst (λ z. Right names more (mixture (pos 1) (linear (length names) (length more) a) (negsuc 0) (linear (length names) (length more) b)) z) (omega (arith, ints)) r
is_right names more (c.Mul' s (more_of-Ix a end_of-Ix) t (more_of-Ix b end_of-Ix)) h =
    let all = three (linear (length names) (length more) a).affine (linear (length names) (length more) b).affine (not ((linear (length names) (length more) a).named && (linear (length names) (length more) b).named)) h in
    product_right names more (linear (length names) (length more) a) (linear (length names) (length more) b) (whole a names) (whole b names)
    (is_right names more a all.0) (is_right names more b all.1) all.2
is_right names more (c.Min' s (more_of-Ix a end_of-Ix) t (more_of-Ix b end_of-Ix)) h = absurd (cc)
is_right names more (c.Max' s (more_of-Ix a end_of-Ix) t (more_of-Ix b end_of-Ix)) h = absurd (cc)
is_right names more (c.Floord' s (more_of-Ix a end_of-Ix) k) h = absurd (cc)
is_right names more (c.Ceild' s (more_of-Ix a end_of-Ix) k) h = absurd (cc)
is_right names more (c.Mod' s (more_of-Ix a end_of-Ix) t (more_of-Ix b end_of-Ix)) h = absurd (cc)

pub value_of_form : (names more : List ℤ) (e : Ix) → IsTrue (is_affine e) → value (form_of (length names) (length more) e) (names ++ more) ≡ whole e names
value_of_form names more e h = (is_right names more e (same_affine (length names) (length more) 0 0 e ∙ h)).gives

-- a column's form gives the column's number
pub column_value : (xs : List ℤ) (j : ℕ) → value (record { coefs = unit_of (length xs) j; constant = pos 0 }) xs ≡ get_or xs j (pos 0)
column_value xs j = omega (arith, ints, dot_column xs j)
  where
    dot_column : (xs : List ℤ) (j : ℕ) → dot (unit_of (length xs) j) xs ≡ get_or xs j (pos 0)
    dot_column [] j = refl
    dot_column (x ∷ xs) zero = omega (arith, ints, dot_zeros (length xs) xs)
    dot_column (x ∷ xs) (suc j) = omega (arith, ints, dot_column xs j)

pub number_width : (n : ℕ) (z : ℤ) → length (replicate n (pos 0)) ≡ n
number_width n z = length-replicate n (pos 0)

pub number_value : (n : ℕ) (z : ℤ) (xs : List ℤ) → value (record { coefs = replicate n (pos 0); constant = z }) xs ≡ z
number_value n z xs = omega (arith, ints, dot_zeros n xs)

pub forms_have_the_value : FormsHaveTheValue
forms_have_the_value = value_of_form

-- ---- Sizes

pub slight_coefs : (cs : List ℤ) → IsTrue (are_slight cs) → All (λ c. unsigned_abs c ≤ 256) cs
slight_coefs [] h = All-nil (λ c. unsigned_abs c ≤ 256)
slight_coefs (c ∷ cs) h =
    let a = both_true (nat_le (nat_abs c) 256) (are_slight cs) h in
    All-cons (λ c. unsigned_abs c ≤ 256) c cs (leb-true (nat_abs c) 256 a.0) (slight_coefs cs a.1)
