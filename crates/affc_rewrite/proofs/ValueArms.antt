-- The parts of a plain value are plain, and a value with folded subscripts is made of its parts.
use Rattle.std.proofs.Common.{◌≡◌, ℕ, Bool, true, sym, ap, ◌∙◌}
use Rattle.affc_ast.specs.declared.tree.Op.{Op}
use Rattle.affc_ast.specs.declared.tree.Val.{Val}
use Rattle.affc_ast.specs.declared.tree.Val.TheVariants as v
use Rattle.affc_ast.proofs.Steps.{not_here, bin_here, shift_here}
use Rattle.affc_domain.specs.Plain.{plain_value_step, plain_value}
use Rattle.affc_domain.proofs.Lists.{both_true}

module _ (n : ℕ) (e : Val) (h : plain_value e n ≡ true) where
  pub not_plain : (a : Val) → e ≡ v.Not a → plain_value a n ≡ true
  not_plain a g = sym (ap (λ y. plain_value y n) g ∙ ap (λ f. f n) (not_here plain_value_step a)) ∙ h

  pub bin_plain : (op : Op) (a b : Val) → e ≡ v.Bin op a b → (plain_value a n ≡ true) × (plain_value b n ≡ true)
  bin_plain op a b g = both_true (plain_value a n) (plain_value b n) (sym (ap (λ y. plain_value y n) g ∙ ap (λ f. f n) (bin_here plain_value_step op a b)) ∙ h)

  pub shift_plain : (left : Bool) (a : Val) (by : ℕ) → e ≡ v.Shift left a by → plain_value a n ≡ true
  shift_plain left a by g = sym (ap (λ y. plain_value y n) g ∙ ap (λ f. f n) (shift_here plain_value_step left a by)) ∙ h
