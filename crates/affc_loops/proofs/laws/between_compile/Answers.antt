use Rattle.affc_loops.proofs.BetweenLaws.{between_compile}
use Rattle.affc_loops.proofs.laws.between_compile.Goals as goal

pub returns : goal.returns
returns c = record { law = between_compile }
