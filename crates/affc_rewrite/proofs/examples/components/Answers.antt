use Rattle.affc_rewrite.proofs.ExampleProofs as x
use Rattle.affc_rewrite.proofs.examples.components.Goals as goal

pub returns : goal.returns
returns c = record { two_dimensions = x.two_dimensions; others_keep_subscripts = x.others_keep_subscripts; one_element = x.one_element }
