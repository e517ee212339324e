use Rattle.affc_eliminate.proofs.StepExamples.{weights, sums_of_given, in_least_terms, signs_of_two, wide_rows}
use Rattle.affc_eliminate.proofs.examples.mixtures.Goals as goal

pub returns-clause-weights : goal.returns-clause-weights
returns-clause-weights c = weights

pub returns-clause-sums : goal.returns-clause-sums
returns-clause-sums c = sums_of_given

pub returns-clause-least : goal.returns-clause-least
returns-clause-least c = in_least_terms

pub returns-clause-signs : goal.returns-clause-signs
returns-clause-signs c = signs_of_two

pub returns-clause-wide : goal.returns-clause-wide
returns-clause-wide c = wide_rows
