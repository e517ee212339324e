use Rattle.affc_loops.proofs.BetweenLaws.{ranges_of_times}
use Rattle.affc_loops.proofs.laws.ranges_of_times.Goals as goal

pub returns : goal.returns
returns c = record { law = ranges_of_times }
