use Rattle.affc_conflicts.proofs.ExampleProofs.{questions_of_the_context}
use Rattle.affc_conflicts.proofs.examples.context.Goals as goal

pub returns : goal.returns
returns c = record { questions = questions_of_the_context }
