-- The lemmas.
use Rattle.affc_grammar.proofs.Closed.{is_deep, is_fail, is_finished, is_give}
use Rattle.affc_grammar.proofs.readers.nothing_read.Goals as goal

pub returns-clause-given : goal.returns-clause-given
returns-clause-given g c = λ a. is_give a

pub returns-clause-failed : goal.returns-clause-failed
returns-clause-failed g c = is_fail

pub returns-clause-refused : goal.returns-clause-refused
returns-clause-refused g c = is_deep

pub returns-clause-ended : goal.returns-clause-ended
returns-clause-ended g c = λ a. is_finished a
