-- The lemmas.
use Rattle.affc_grammar.proofs.Closed.{is_either}
use Rattle.affc_grammar.proofs.readers.choice.Goals as goal

pub returns : goal.returns
returns g c = λ test past other r s. is_either r s
