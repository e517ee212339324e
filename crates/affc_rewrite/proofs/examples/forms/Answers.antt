use Rattle.affc_rewrite.proofs.ExampleProofs as x
use Rattle.affc_rewrite.proofs.examples.forms.Goals as goal

pub returns : goal.returns
returns c = record { ones_and_units = x.ones_and_units }
