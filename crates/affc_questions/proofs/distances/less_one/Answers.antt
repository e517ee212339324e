use Rattle.std.proofs.Common.{◌≡◌, pos, negsuc, sym, ap₂, subst, ◌∙◌}
use Rattle.std.proofs.lemmas.Result.{IfOk-weaker}
use Rattle.affc_rows.specs.Forms.{Affine, mixed_form}
use Rattle.affc_conflicts.specs.Questions.{over_columns}
use Rattle.affc_nest.specs.Domains.{number_form}
use Rattle.affc_nest.specs.Wide.{IsWide}
use Rattle.affc_questions.proofs.SizeLemmas.{less_one_mild, mild_wide}
use Rattle.affc_questions.proofs.distances.less_one.Goals as goal

pub returns : goal.returns
returns c =
    let n = c.args.columns in
    let b = c.args.modulus.now in
    let is : (f : Affine) → f ≡ mixed_form (pos 1) c.in_ok-most.most (negsuc 0) c.in_ok-one.one → f ≡ mixed_form (pos 1) (over_columns n b) (negsuc 0) (number_form n (pos 1)) =
    λ f e. e ∙ ap₂ (λ g h. mixed_form (pos 1) g (negsuc 0) h) c.in_ok-most.ensures.value c.in_ok-one.ensures.value in
    record {
      value = IfOk-weaker c.minus.result _ _ is c.minus.ensures;
      wide = IfOk-weaker c.minus.result _ (IsWide n) (λ f e. subst (IsWide n) (sym (is f e)) (mild_wide n (mixed_form (pos 1) (over_columns n b) (negsuc 0) (number_form n (pos 1))) (less_one_mild n b c.requires))) c.minus.ensures;
    }
