use Rattle.std.proofs.Common.{◌≡◌, ℤ, List, pos, refl, ap, ◌∙◌}
use Rattle.std.proofs.lemmas.Result.{IfOk-weaker}
use Rattle.affc_rows.specs.Forms.{value}
use Rattle.affc_rows.specs.Vocabulary.{number_form}
use Rattle.affc_conflicts.proofs.differences.Mixtures.{zero_value}
use Rattle.affc_conflicts.proofs.differences.row.zero.Goals as goal

pub returns-clause-value : goal.returns-clause-value
returns-clause-value c = IfOk-weaker c.number.result (λ f. f ≡ number_form c.args.columns (pos 0)) (λ f. (z : List ℤ) → value f z ≡ pos 0)
    (λ f e z. ap (λ u. value u z) e ∙ zero_value c.args.columns _ z refl) c.number.ensures.value
