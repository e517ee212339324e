use Rattle.affc_loops.proofs.BetweenLaws.{between_do_target}
use Rattle.affc_loops.proofs.laws.between_do_target.Goals as goal

pub returns : goal.returns
returns c = record { law = between_do_target }
