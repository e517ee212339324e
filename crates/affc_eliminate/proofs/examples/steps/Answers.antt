use Rattle.affc_eliminate.proofs.ExampleProofs.{two_rows_are_left, five_halves_extend, ten_does_not_extend}
use Rattle.affc_eliminate.proofs.examples.steps.Goals as goal

pub returns-clause-two_rows_are_left : goal.returns-clause-two_rows_are_left
returns-clause-two_rows_are_left c = two_rows_are_left

pub returns-clause-five_halves_extend : goal.returns-clause-five_halves_extend
returns-clause-five_halves_extend c = five_halves_extend

pub returns-clause-ten_does_not_extend : goal.returns-clause-ten_does_not_extend
returns-clause-ten_does_not_extend c = ten_does_not_extend
