use Rattle.affc_compare.proofs.ExampleProofs.{loops_interchanged, turns_reversed}
use Rattle.affc_compare.proofs.examples.times.Goals as goal

pub returns : goal.returns
returns c = record { loops_interchanged = loops_interchanged; turns_reversed = turns_reversed }
