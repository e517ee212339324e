use Rattle.affc_folds.proofs.ExampleProofs as x
use Rattle.affc_folds.proofs.examples.prices.Goals as goal

pub returns : goal.returns
returns c = record { law = x.lowest_prices }
