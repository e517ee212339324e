use Rattle.affc_moduli.proofs.OneRow.{below_zero_row}
use Rattle.affc_moduli.proofs.Results.{both}
use Rattle.affc_moduli.proofs.reduced.below_zero.Goals as goal

pub returns-clause-row : goal.returns-clause-row
returns-clause-row c = both _ _ _ c.number.result (λ f e _. below_zero_row c.args.columns f e) c.number.ensures.value c.number.ensures.value
