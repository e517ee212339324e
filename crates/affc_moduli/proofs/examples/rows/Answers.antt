use Rattle.affc_moduli.proofs.ExampleProofs as example
use Rattle.affc_moduli.proofs.examples.rows.Goals as goal

pub returns : goal.returns
returns c = record { successive = example.rows_are_successive; barred = example.barred_by_parallels }
