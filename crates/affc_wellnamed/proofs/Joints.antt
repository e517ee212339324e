-- By which mark a condition's parts are joined.
use Rattle.std.proofs.Common.{◌≡◌, refl, sym, ap, ◌∙◌}
use Rattle.affc_ast.specs.declared.tree.Cond.{Cond}
use Rattle.affc_ast.proofs.Steps.{all_here, any_here}
use Rattle.affc_cprint.proofs.ReadBackConditions.{all_step, is_all, any_step, is_any}
use Rattle.affc_wellnamed.specs.Known.{Known, CondKnown, cond_step, cond_seen}
use Rattle.affc_wellnamed.proofs.Induction.{CondCases, every_cond}

pub all_is : (known : Known) (x : Cond) → (cond_seen known x).is_all ≡ is_all x
all_is known x = every_cond (λ y. (cond_seen known y).is_all ≡ is_all y) (record {
  compare = λ rel left right. refl;
  all = λ cs f. ap (λ (s : CondKnown). s.is_all) (all_here (cond_step known) cs) ∙ sym (all_here all_step cs);
  any = λ cs f. ap (λ (s : CondKnown). s.is_all) (any_here (cond_step known) cs) ∙ sym (any_here all_step cs);
  divides = λ value by so. refl;
}) x

pub any_is : (known : Known) (x : Cond) → (cond_seen known x).is_any ≡ is_any x
any_is known x = every_cond (λ y. (cond_seen known y).is_any ≡ is_any y) (record {
  compare = λ rel left right. refl;
  all = λ cs f. ap (λ (s : CondKnown). s.is_any) (all_here (cond_step known) cs) ∙ sym (all_here any_step cs);
  any = λ cs f. ap (λ (s : CondKnown). s.is_any) (any_here (cond_step known) cs) ∙ sym (any_here any_step cs);
  divides = λ value by so. refl;
}) x
