use Rattle.affc_foldloops.proofs.ExampleProofs as x
use Rattle.affc_foldloops.proofs.examples.temporaries.Goals as goal

pub returns : goal.returns
returns c = record { sizes = x.sizes_of_temporaries; extents = x.extents_of_temporaries }
