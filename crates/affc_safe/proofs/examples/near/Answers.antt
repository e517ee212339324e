use Rattle.affc_safe.proofs.OverflowProofs as x
use Rattle.affc_safe.proofs.examples.near.Goals as goal

pub returns : goal.returns
returns c = record { iterators = x.iterators_keep_near; never_entered = x.never_entered; bounds = x.bounds_are_plain; conditions = x.conditions_are_plain; names = x.sixteen_names; parameters = x.parameters_keep_near }
