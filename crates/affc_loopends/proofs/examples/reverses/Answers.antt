use Rattle.affc_loopends.proofs.ExampleProofs as x
use Rattle.affc_loopends.proofs.examples.reverses.Goals as goal

pub returns : goal.returns
returns c = record { ends = x.reversed_ends; too_few = x.too_few; each_at_its_end = x.each_at_its_end; no_other_row = x.no_other_row }
