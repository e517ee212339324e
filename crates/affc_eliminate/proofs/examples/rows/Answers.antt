use Rattle.affc_eliminate.proofs.ExampleProofs.{trivial_rows, same_slopes, opposite_of_row}
use Rattle.affc_eliminate.proofs.examples.rows.Goals as goal

pub returns-clause-trivial : goal.returns-clause-trivial
returns-clause-trivial c = trivial_rows

pub returns-clause-slopes : goal.returns-clause-slopes
returns-clause-slopes c = same_slopes

pub returns-clause-opposite : goal.returns-clause-opposite
returns-clause-opposite c = opposite_of_row
