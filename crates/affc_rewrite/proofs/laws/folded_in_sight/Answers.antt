use Rattle.affc_rewrite.proofs.SightLemmas.{folded_in_sight}
use Rattle.affc_rewrite.proofs.laws.folded_in_sight.Goals as goal

pub returns : goal.returns
returns c = record { law = folded_in_sight }
