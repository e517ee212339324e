-- By computation.
use Rattle.std.proofs.Common.{refl}
use Rattle.affc_grammar.specs.Verdict.{computing}
use Rattle.affc_grammar.proofs.examples.trees.Goals as goal

pub returns-clause-calls : goal.returns-clause-calls
unfolding computing
returns-clause-calls c = refl

pub returns-clause-operators : goal.returns-clause-operators
unfolding computing
returns-clause-operators c = refl

pub returns-clause-numbers : goal.returns-clause-numbers
unfolding computing
returns-clause-numbers c = refl

pub returns-clause-context_in_order : goal.returns-clause-context_in_order
unfolding computing
returns-clause-context_in_order c = refl

pub returns-clause-conditions : goal.returns-clause-conditions
unfolding computing
returns-clause-conditions c = refl
