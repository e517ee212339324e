-- An expression that is made of moved operands is the moved one.
use Rattle.std.proofs.Common.{◌≡◌, ℕ, Result, sym, ap, subst, ◌∙◌}
use Rattle.std.specs.Prelude.{IfOk}
use Rattle.std.specs.declared.alloc.AllocError.{AllocError}
use Rattle.affc_ast.specs.declared.tree.Ix.{Ix}
use Rattle.affc_ast.proofs.Steps.{neg_here, add_here, sub_here, mul_here, min_here, max_here, mod_here, floord_here, ceild_here}
use Rattle.affc_loops.specs.Trees.{moved, moved_step}
use Rattle.affc_scan.specs.declared.operators.Binary.{Binary}
use Rattle.affc_scan.specs.declared.operators.Binary.TheVariants.{Sum, Difference, Product, Least, Greatest, Remainder}
use Rattle.affc_scan.specs.declared.operators.Unary.{Unary}
use Rattle.affc_scan.specs.declared.operators.Unary.TheVariants.{Opposite, Floor, Ceiling}
use Rattle.affc_scan.specs.Operators.{with_one, with_two}

module _ (first more : ℕ) where
  moved_one : (operator : Unary) (a : Ix) → moved first more (with_one operator a) ≡ with_one operator (moved first more a)
  moved_one Opposite a = neg_here (moved_step first more) a
  moved_one (Floor n) a = floord_here (moved_step first more) a n
  moved_one (Ceiling n) a = ceild_here (moved_step first more) a n

  moved_two : (operator : Binary) (a b : Ix) → moved first more (with_two operator a b) ≡ with_two operator (moved first more a) (moved first more b)
  moved_two Sum a b = add_here (moved_step first more) a b
  moved_two Difference a b = sub_here (moved_step first more) a b
  moved_two Product a b = mul_here (moved_step first more) a b
  moved_two Least a b = min_here (moved_step first more) a b
  moved_two Greatest a b = max_here (moved_step first more) a b
  moved_two Remainder a b = mod_here (moved_step first more) a b

  pub made_of_one : (e : Ix) (operator : Unary) (a : Ix) → e ≡ with_one operator a → (y : Ix) → y ≡ moved first more a
      → (r : Result Ix AllocError) → IfOk r (λ z. z ≡ with_one operator y) → IfOk r (λ z. z ≡ moved first more e)
  made_of_one e operator a is y own r made =
      subst (λ (w : Ix). IfOk r (λ z. z ≡ w)) (ap (with_one operator) own ∙ sym (ap (moved first more) is ∙ moved_one operator a)) made

  pub made_of_two : (e : Ix) (operator : Binary) (a b : Ix) → e ≡ with_two operator a b → (y y' : Ix) → y ≡ moved first more a → y' ≡ moved first more b
      → (r : Result Ix AllocError) → IfOk r (λ z. z ≡ with_two operator y y') → IfOk r (λ z. z ≡ moved first more e)
  made_of_two e operator a b is y y' own own' r made =
      subst (λ (w : Ix). IfOk r (λ z. z ≡ w)) ((λ i. with_two operator (own i) (own' i)) ∙ sym (ap (moved first more) is ∙ moved_two operator a b)) made
