use Rattle.affc_safe.proofs.ExampleProofs as x
use Rattle.affc_safe.proofs.examples.safe.Goals as goal

pub returns : goal.returns
returns c = record { blur = x.blur_is_safe; without_temporaries = x.without_temporaries; own_load = x.own_load_counts }
