use Rattle.affc_ast.proofs.DenialLemmas.{denial}
use Rattle.affc_ast.proofs.laws.denials_are_true_where_not.Goals as goal

pub returns : goal.returns
returns c = denial
