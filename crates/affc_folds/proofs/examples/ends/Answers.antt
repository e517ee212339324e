use Rattle.affc_folds.proofs.ExampleProofs as x
use Rattle.affc_folds.proofs.examples.ends.Goals as goal

pub returns : goal.returns
returns c = record { spent = x.spent_or_not; whole = x.whole_or_not }
