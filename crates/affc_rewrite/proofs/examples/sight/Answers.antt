use Rattle.affc_rewrite.proofs.ExampleProofs as x
use Rattle.affc_rewrite.proofs.examples.sight.Goals as goal

pub returns : goal.returns
returns c = record { sixteen_names = x.sixteen_names; out_of_sight = x.names_out_of_sight }
