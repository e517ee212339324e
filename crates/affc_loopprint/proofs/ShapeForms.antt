-- How many tokens and brackets an affine form is printed with.
use Rattle.std.proofs.Common.{◌≡◌, ℕ, zero, suc, ◌+◌, ◌*◌, ◌≤◌, ℤ, pos, negsuc, true, max, List, [], ◌∷◌, ◌++◌, length, take, drop, refl, sym, subst, arith, length-append}
use Rattle.std.proofs.lemmas.List.{length-take, length-drop}
use Rattle.affc_rows.specs.Forms.{Affine}
use Rattle.affc_ast.specs.declared.tree.Ix.{Ix}
use Rattle.affc_ast.specs.declared.tree.Ix.TheVariants.{Lit, Neg, Add, Sub}
use Rattle.affc_cprint.specs.declared.brackets.Place.TheVariants.{Whole, RightOfSum, UnderMinus}
use Rattle.affc_wellnamed.specs.declared.shape.Extent.{Extent}
use Rattle.affc_wellnamed.specs.declared.shape.IxExtent.{IxExtent}
use Rattle.affc_wellnamed.specs.Shape.{placed, one_token, sum, product, ix_step, ix_extent, whole}
use Rattle.affc_ast.proofs.Steps.{neg_here, add_here, sub_here, mul_here}
use Rattle.affc_loopprint.proofs.reprint.Rows.{Under, under_more, under_both, under_tokens}
use Rattle.affc_loopprint.proofs.reprint.Expressions.{placed_whole}
use Rattle.affc_loops.specs.Trees.{name_at, number, times, Term, and_more, sum_of, terms_from, form_tree}

-- at most so many tokens and brackets
abbrev pub Few : (tokens depth : ℕ) → Extent → Type 0
Few = Under 0

few_more : (t d t' d' : ℕ) (e : Extent) → t ≤ t' → d ≤ d' → Few t d e → Few t' d' e
few_more t d t' d' e h k f = under_more 0 t d 0 t' d' e (omega (arith, h)) k f

abbrev extent : Ix → IxExtent
extent = ix_extent true

-- a term at its places
record IsTerm (e : IxExtent) : Type 0 where
  alone : Few 3 0 e.extent
  summand : Few 3 0 (placed RightOfSum e)
  negated : Few 5 1 (placed UnderMinus e)

one_term : IsTerm one_token
one_term = record {
  alone = record { few = omega arith; shallow = omega arith };
  summand = record { few = omega arith; shallow = omega arith };
  negated = record { few = omega arith; shallow = omega arith };
}

product_term : IsTerm (product one_token one_token)
product_term = record {
  alone = record { few = omega arith; shallow = omega arith };
  summand = record { few = omega arith; shallow = omega arith };
  negated = record { few = omega arith; shallow = omega arith };
}

times_term : (m x : ℕ) → IsTerm (extent (times m x))
times_term zero x = one_term
times_term (suc m) x = subst IsTerm (sym (mul_here (ix_step true) (Lit (pos (suc (suc m)))) (name_at x))) product_term

sum_few : (t d u e : ℕ) (a b : IxExtent) → Few t d a.extent → Few u e (placed RightOfSum b) → Few (t + 1 + u) (max d e) (sum a b).extent
sum_few t d u e a b f g =
    let first : Few t d (placed Whole a) = subst (Few t d) (sym (placed_whole a)) f in
    few_more (t + u + 1) (max d e) _ _ _ (omega arith) (omega arith) (under_tokens 1 0 _ _ _ (under_both 0 t d 0 u e (placed Whole a) (placed RightOfSum b) first g))

added : (t d u e : ℕ) (a b : Ix) → Few t d (extent a).extent → Few u e (placed RightOfSum (extent b)) → Few (t + 1 + u) (max d e) (extent (Add a b)).extent
added t d u e a b f g = subst (λ (z : IxExtent). Few (t + 1 + u) (max d e) z.extent) (sym (add_here (ix_step true) a b)) (sum_few t d u e (extent a) (extent b) f g)

taken : (t d u e : ℕ) (a b : Ix) → Few t d (extent a).extent → Few u e (placed RightOfSum (extent b)) → Few (t + 1 + u) (max d e) (extent (Sub a b)).extent
taken t d u e a b f g = subst (λ (z : IxExtent). Few (t + 1 + u) (max d e) z.extent) (sym (sub_here (ix_step true) a b)) (sum_few t d u e (extent a) (extent b) f g)

minus : (m x : ℕ) → Few 6 1 (extent (Neg (times m x))).extent
minus m x =
    let f = (times_term m x).negated in let a = f.few in let b = f.shallow in
    subst (λ (z : IxExtent). Few 6 1 z.extent) (sym (neg_here (ix_step true) (times m x))) (record { few = omega (arith, a); shallow = b })

literal_few : (n : ℕ) → Few 1 0 (placed RightOfSum (extent (Lit (pos n))))
literal_few n = record { few = omega arith; shallow = omega arith }

pub number_few : (n : ℤ) → Few 2 0 (whole true (number n))
number_few (pos n) = record { few = omega arith; shallow = omega arith }
number_few (negsuc n) = subst (λ z. Few 2 0 (placed Whole z)) (sym (neg_here (ix_step true) (Lit (pos (suc n))))) (record { few = omega arith; shallow = omega arith })

more_few : (e : Ix) (ts : List Term) (constant : ℤ) (t d : ℕ) → Few t d (extent e).extent → Few (t + 4 * length ts + 2) d (extent (and_more e ts constant)).extent
more_few e [] (pos zero) t d f = few_more t d _ _ _ (omega arith) (omega arith) f
more_few e [] (pos (suc n)) t d f = few_more (t + 1 + 1) (max d 0) _ _ _ (omega arith) (omega arith) (added t d 1 0 e (Lit (pos (suc n))) f (literal_few (suc n)))
more_few e [] (negsuc n) t d f = few_more (t + 1 + 1) (max d 0) _ _ _ (omega arith) (omega arith) (taken t d 1 0 e (Lit (pos (suc n))) f (literal_few (suc n)))
more_few e ((pos zero, x) ∷ ts) constant t d f = few_more (t + 4 * length ts + 2) d _ _ _ (omega arith) (omega arith) (more_few e ts constant t d f)
more_few e ((pos (suc m), x) ∷ ts) constant t d f =
    few_more (t + 1 + 3 + 4 * length ts + 2) (max d 0) _ _ _ (omega arith) (omega arith) (more_few (Add e (times m x)) ts constant (t + 1 + 3) (max d 0) (added t d 3 0 e (times m x) f (times_term m x).summand))
more_few e ((negsuc m, x) ∷ ts) constant t d f =
    few_more (t + 1 + 3 + 4 * length ts + 2) (max d 0) _ _ _ (omega arith) (omega arith) (more_few (Sub e (times m x)) ts constant (t + 1 + 3) (max d 0) (taken t d 3 0 e (times m x) f (times_term m x).summand))

sum_of_fewer : (ts : List Term) (constant : ℤ) → Few (4 * length ts + 4) 1 (extent (sum_of ts constant)).extent
sum_of_fewer [] constant = few_more 2 0 _ _ _ (omega arith) (omega arith) (subst (Few 2 0) (placed_whole (extent (number constant))) (number_few constant))
sum_of_fewer ((pos zero, x) ∷ ts) constant = few_more (4 * length ts + 4) 1 _ _ _ (omega arith) (omega arith) (sum_of_fewer ts constant)
sum_of_fewer ((pos (suc m), x) ∷ ts) constant = few_more (3 + 4 * length ts + 2) 0 _ _ _ (omega arith) (omega arith) (more_few (times m x) ts constant 3 0 (times_term m x).alone)
sum_of_fewer ((negsuc m, x) ∷ ts) constant = few_more (6 + 4 * length ts + 2) 1 _ _ _ (omega arith) (omega arith) (more_few (Neg (times m x)) ts constant 6 1 (minus m x))

sum_of_few : (ts : List Term) (constant : ℤ) → Few (6 * length ts + 2) 1 (extent (sum_of ts constant)).extent
sum_of_few [] constant = few_more 2 0 _ _ _ (omega arith) (omega arith) (subst (Few 2 0) (placed_whole (extent (number constant))) (number_few constant))
sum_of_few (t ∷ ts) constant = few_more (4 * length (t ∷ ts) + 4) 1 _ _ _ (omega arith) (omega arith) (sum_of_fewer (t ∷ ts) constant)

terms_count : (from : ℕ) (cs : List ℤ) → length (terms_from from cs) ≡ length cs
terms_count from [] = refl
terms_count from (c ∷ cs) = let r = terms_count (suc from) cs in omega (arith, r)

terms_few : (first from : ℕ) (f : Affine) → length (terms_from from (drop first f.coefs) ++ terms_from 0 (take first f.coefs)) ≤ length f.coefs
terms_few first from f =
    let xs = terms_from from (drop first f.coefs) in
    let ys = terms_from 0 (take first f.coefs) in
    let a = terms_count from (drop first f.coefs) in let b = terms_count 0 (take first f.coefs) in
    let c = length-drop first f.coefs in let d = length-take first f.coefs in
    let n = length-append xs ys in
    omega (arith, a, b, c, d, n)

-- at most six tokens a column, and two for the constant
pub form_few : (first from : ℕ) (f : Affine) → Few (6 * length f.coefs + 2) 1 (whole true (form_tree first from f))
form_few first from f =
    let ts = terms_from from (drop first f.coefs) ++ terms_from 0 (take first f.coefs) in
    let n = terms_few first from f in
    subst (Few (6 * length f.coefs + 2) 1) (sym (placed_whole (extent (form_tree first from f)))) (few_more (6 * length ts + 2) 1 _ _ _ (omega (arith, n)) (omega arith) (sum_of_few ts f.constant))

-- at most four tokens a column, four more for the brackets round the first and for the constant
pub form_fewer : (first from : ℕ) (f : Affine) → Few (4 * length f.coefs + 4) 1 (whole true (form_tree first from f))
form_fewer first from f =
    let ts = terms_from from (drop first f.coefs) ++ terms_from 0 (take first f.coefs) in
    let n = terms_few first from f in
    subst (Few (4 * length f.coefs + 4) 1) (sym (placed_whole (extent (form_tree first from f)))) (few_more (4 * length ts + 4) 1 _ _ _ (omega (arith, n)) (omega arith) (sum_of_fewer ts f.constant))
