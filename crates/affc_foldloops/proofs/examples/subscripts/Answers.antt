use Rattle.affc_foldloops.proofs.ExampleProofs as x
use Rattle.affc_foldloops.proofs.examples.subscripts.Goals as goal

pub returns : goal.returns
returns c = record { all_are_marked = x.all_are_marked; other_places = x.other_places; far_isnt_read = x.far_isnt_read }
