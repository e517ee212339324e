use Rattle.affc_split.proofs.ExampleProofs as x
use Rattle.affc_split.proofs.examples.boxes.Goals as goal

pub returns-clause-parts_lie_within : goal.returns-clause-parts_lie_within
returns-clause-parts_lie_within c = x.parts_lie_within

pub returns-clause-no_box_behind_the_point : goal.returns-clause-no_box_behind_the_point
returns-clause-no_box_behind_the_point c = x.no_box_behind_the_point

pub returns-clause-no_box_behind_the_answer : goal.returns-clause-no_box_behind_the_answer
returns-clause-no_box_behind_the_answer c = x.no_box_behind_the_answer
