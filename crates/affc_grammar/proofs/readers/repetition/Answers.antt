-- The lemmas.
use Rattle.affc_grammar.proofs.Closed.{is_all, is_until}
use Rattle.affc_grammar.proofs.readers.repetition.Goals as goal

pub returns-clause-optional : goal.returns-clause-optional
returns-clause-optional g c = λ test turn r a. is_all r a

pub returns-clause-to_the_end : goal.returns-clause-to_the_end
returns-clause-to_the_end g c = λ test turn r a. is_until r a
