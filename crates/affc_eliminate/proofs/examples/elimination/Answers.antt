use Rattle.affc_eliminate.proofs.StepExamples.{x_is_eliminated, not_otherwise, no_pair_twice, places}
use Rattle.affc_eliminate.proofs.examples.elimination.Goals as goal

pub returns-clause-eliminated : goal.returns-clause-eliminated
returns-clause-eliminated c = x_is_eliminated

pub returns-clause-otherwise : goal.returns-clause-otherwise
returns-clause-otherwise c = not_otherwise

pub returns-clause-pairs : goal.returns-clause-pairs
returns-clause-pairs c = no_pair_twice

pub returns-clause-places : goal.returns-clause-places
returns-clause-places c = places
