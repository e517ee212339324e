use Rattle.affc_check.proofs.list.ListingLemmas.{folds_asked}
use Rattle.affc_check.proofs.list.all.systems_of.Goals as goal

pub add_systems-requires-clause-folds : goal.add_systems-requires-clause-folds
add_systems-requires-clause-folds c = folds_asked c.args.nest.now c.args.cert.now c.as_slice.result.now c.requires.certificate c.as_slice.ensures
