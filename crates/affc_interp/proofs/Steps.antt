-- What is done last in an expression.
use Rattle.std.proofs.Common.{◌≡◌, ℕ, suc, ◌+◌, ℤ, List, Ok, refl, sym, ap, ◌∙◌, arith, rules}
use denote.Bor.{Bor}
use Rattle.affc_ast.specs.declared.tree.Ix.{Ix, out-Ix, map-Ix, the_lemmas as ix_lemmas}
use Rattle.affc_ast.specs.declared.tree.Ix.TheVariants.{Neg, Add, Sub, Mul, Min, Max, Floord, Ceild, Mod}
use Rattle.affc_ast.specs.declared.tree.Ix.TheOpen as layer
use Rattle.affc_ast.specs.declared.tree.Ix.TheOpen.{Ix-F}
use Rattle.affc_ast.specs.Cause.{◌>>=◌}
use Rattle.affc_ast.specs.Index.{index_step, nodes_of_ix, index_value}
use Rattle.affc_ast.specs.Fits.{whole_step, whole_of}
use Rattle.affc_ast.specs.Recursion.{by_ix}
use Rattle.affc_ast.proofs.Outs.{by_ix_out}
use Rattle.affc_interp.specs.Operands.{first_in, first_operand, row_step, operators}
use Rattle.affc_interp.specs.Steps.{IsAtom, IsStep, made, whole_made, right_nodes}
use Rattle.affc_interp.specs.declared.step.Join.TheVariants.{Sum, Difference, Product, Least, Greatest, Remainder}
use Rattle.affc_interp.specs.declared.step.Step.{Step}
use Rattle.affc_interp.specs.declared.step.Step.TheVariants.{Opposite, Floor, Ceiling, Joined}

-- a function by one step, at what the expression is seen as
at : {A : Type 0} (f : Ix-F A → A) (e : Ix) (l : Ix-F Ix) → out-Ix e ≡ l → by_ix f e ≡ f (map-Ix Ix A (by_ix f) l)
at f e l is = by_ix_out f e ∙ ap (λ x. f (map-Ix Ix _ (by_ix f) x)) is

module _ (e : Ix) (l : Ix-F Ix) (is : out-Ix e ≡ l) where
  atom : row_step (map-Ix Ix ℕ operators l) ≡ 0 → (index_step (map-Ix Ix _ (by_ix index_step) l)).nodes ≡ 1 → IsAtom e
  atom none one = record { none = at row_step e l is ∙ none; one = ap (λ x. x.nodes) (at index_step e l is) ∙ one }

  step : (a : Ix) (s : Step) → a ≡ first_in e l → row_step (map-Ix Ix ℕ operators l) ≡ suc (operators a)
      → (index_step (map-Ix Ix _ (by_ix index_step) l)).nodes ≡ 1 + nodes_of_ix a + right_nodes s
      → ((node : ℕ) (names : List ℤ) → (index_step (map-Ix Ix _ (by_ix index_step) l)).value node names ≡ index_value a (node + 1) names >>= made s node (node + 1 + nodes_of_ix a) names)
      → ((names : List ℤ) → whole_step (map-Ix Ix _ (by_ix whole_step) l) names ≡ whole_made s names (whole_of a names))
      → IsStep e a s
  step a s first more nodes value whole = record {
    first = first ∙ sym (ap (first_in e) is);
    more = at row_step e l is ∙ more;
    nodes = ap (λ x. x.nodes) (at index_step e l is) ∙ nodes;
    value = λ node names. ap (λ x. x.value node names) (at index_step e l is) ∙ value node names;
    whole = λ names. ap (λ f. f names) (at whole_step e l is) ∙ whole names;
  }

-- ---- As the code takes an expression apart

neg_out : (a : Ix) → out-Ix (Neg a) ≡ layer.Neg a
neg_out a = first_of (simp ix_lemmas, search (rules, ix_lemmas))

floord_out : (a : Ix) (n : ℤ) → out-Ix (Floord a n) ≡ layer.Floord a n
floord_out a n = first_of (simp ix_lemmas, search (rules, ix_lemmas))

ceild_out : (a : Ix) (n : ℤ) → out-Ix (Ceild a n) ≡ layer.Ceild a n
ceild_out a n = first_of (simp ix_lemmas, search (rules, ix_lemmas))

add_out : (a b : Ix) → out-Ix (Add a b) ≡ layer.Add a b
add_out a b = first_of (simp ix_lemmas, search (rules, ix_lemmas))

sub_out : (a b : Ix) → out-Ix (Sub a b) ≡ layer.Sub a b
sub_out a b = first_of (simp ix_lemmas, search (rules, ix_lemmas))

mul_out : (a b : Ix) → out-Ix (Mul a b) ≡ layer.Mul a b
mul_out a b = first_of (simp ix_lemmas, search (rules, ix_lemmas))

min_out : (a b : Ix) → out-Ix (Min a b) ≡ layer.Min a b
min_out a b = first_of (simp ix_lemmas, search (rules, ix_lemmas))

max_out : (a b : Ix) → out-Ix (Max a b) ≡ layer.Max a b
max_out a b = first_of (simp ix_lemmas, search (rules, ix_lemmas))

mod_out : (a b : Ix) → out-Ix (Mod a b) ≡ layer.Mod a b
mod_out a b = first_of (simp ix_lemmas, search (rules, ix_lemmas))

-- on one expression, which the code reaches as a
pub opposite_step : (e x a : Ix) → e ≡ Neg x → a ≡ x → IsStep e a Opposite
opposite_step e x a is same =
    step e (layer.Neg a) (ap out-Ix is ∙ neg_out x ∙ ap layer.Neg (sym same)) a Opposite refl refl (omega arith) (λ node names. refl) (λ names. refl)

pub floor_step : (e x a : Ix) (n : ℤ) → e ≡ Floord x n → a ≡ x → IsStep e a (Floor n)
floor_step e x a n is same =
    step e (layer.Floord a n) (ap out-Ix is ∙ floord_out x n ∙ ap (λ y. layer.Floord y n) (sym same)) a (Floor n) refl refl (omega arith) (λ node names. refl) (λ names. refl)

pub ceiling_step : (e x a : Ix) (n : ℤ) → e ≡ Ceild x n → a ≡ x → IsStep e a (Ceiling n)
ceiling_step e x a n is same =
    step e (layer.Ceild a n) (ap out-Ix is ∙ ceild_out x n ∙ ap (λ y. layer.Ceild y n) (sym same)) a (Ceiling n) refl refl (omega arith) (λ node names. refl) (λ names. refl)

-- on two
module _ (e x y a : Ix) (b : Bor Ix) (left : a ≡ x) (right : b.now ≡ y) where
  pub sum_step : e ≡ Add x y → IsStep e a (Joined Sum b)
  sum_step is = step e (layer.Add a b.now) (ap out-Ix is ∙ add_out x y ∙ (λ i. layer.Add (sym left i) (sym right i))) a (Joined Sum b) refl refl refl (λ node names. refl) (λ names. refl)

  pub difference_step : e ≡ Sub x y → IsStep e a (Joined Difference b)
  difference_step is = step e (layer.Sub a b.now) (ap out-Ix is ∙ sub_out x y ∙ (λ i. layer.Sub (sym left i) (sym right i))) a (Joined Difference b) refl refl refl (λ node names. refl) (λ names. refl)

  pub product_step : e ≡ Mul x y → IsStep e a (Joined Product b)
  product_step is = step e (layer.Mul a b.now) (ap out-Ix is ∙ mul_out x y ∙ (λ i. layer.Mul (sym left i) (sym right i))) a (Joined Product b) refl refl refl (λ node names. refl) (λ names. refl)

  pub least_step : e ≡ Min x y → IsStep e a (Joined Least b)
  least_step is = step e (layer.Min a b.now) (ap out-Ix is ∙ min_out x y ∙ (λ i. layer.Min (sym left i) (sym right i))) a (Joined Least b) refl refl refl (λ node names. refl) (λ names. refl)

  pub greatest_step : e ≡ Max x y → IsStep e a (Joined Greatest b)
  greatest_step is = step e (layer.Max a b.now) (ap out-Ix is ∙ max_out x y ∙ (λ i. layer.Max (sym left i) (sym right i))) a (Joined Greatest b) refl refl refl (λ node names. refl) (λ names. refl)

  pub remainder_step : e ≡ Mod x y → IsStep e a (Joined Remainder b)
  remainder_step is = step e (layer.Mod a b.now) (ap out-Ix is ∙ mod_out x y ∙ (λ i. layer.Mod (sym left i) (sym right i))) a (Joined Remainder b) refl refl refl (λ node names. refl) (λ names. refl)

-- ---- From the first operand's value

pub step_value : (e a : Ix) (s t : Step) (node : ℕ) (names : List ℤ) (x : ℤ) → IsStep e a s → s ≡ t → index_value (first_operand e) (node + 1) names ≡ Ok x → index_value e node names ≡ made t node (node + 1 + nodes_of_ix a) names x
step_value e a s t node names x h is inner =
    h.value node names ∙ ap (λ q. q >>= made s node (node + 1 + nodes_of_ix a) names) (ap (λ q. index_value q (node + 1) names) h.first ∙ inner)
    ∙ ap (λ q. made q node (node + 1 + nodes_of_ix a) names x) is
