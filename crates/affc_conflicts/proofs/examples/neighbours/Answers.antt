use Rattle.affc_conflicts.proofs.ExampleProofs.{questions_of_neighbours, slice_of_neighbours, mark_of_neighbours}
use Rattle.affc_conflicts.proofs.examples.neighbours.Goals as goal

pub returns : goal.returns
returns c = record { questions = questions_of_neighbours; slice = slice_of_neighbours; mark = mark_of_neighbours }
