use Rattle.affc_floor.proofs.ExampleProofs.{spans_are_open}
use Rattle.affc_floor.proofs.examples.spans.Goals as goal

pub returns : goal.returns
returns c = spans_are_open
