-- The lemmas.
use Rattle.affc_grammar.proofs.Closed.{is_after}
use Rattle.affc_grammar.proofs.readers.sequence.Goals as goal

pub returns : goal.returns
returns g c = λ p f r s. is_after r s
