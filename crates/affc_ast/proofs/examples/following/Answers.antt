use Rattle.affc_ast.proofs.ExampleProofs as x
use Rattle.affc_ast.proofs.examples.following.Goals as goal

pub returns : goal.returns
returns c = record { follows_in_another_order = x.follows_in_another_order; follows_at_other_places = x.follows_at_other_places }
