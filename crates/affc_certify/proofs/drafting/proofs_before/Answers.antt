use Rattle.affc_quast.specs.Seen.{trees_of}
use Rattle.affc_certify.proofs.DraftLemmas.{no_folds}
use Rattle.affc_certify.proofs.drafting.proofs_before.Goals as goal

pub systems_of-requires-clause-certificate : goal.systems_of-requires-clause-certificate
systems_of-requires-clause-certificate c = no_folds c.args.nest.now (trees_of c.args.flow.now) _ c.requires.trees c.in_ok-copied_flow.ensures c.new-2.ensures

pub groups_of-requires-clause-certificate : goal.groups_of-requires-clause-certificate
groups_of-requires-clause-certificate c = no_folds c.args.nest.now (trees_of c.args.flow.now) _ c.requires.trees c.in_ok-copied_flow.ensures c.new-2.ensures

pub list_all-requires-clause-certificate : goal.list_all-requires-clause-certificate
list_all-requires-clause-certificate c = no_folds c.args.nest.now (trees_of c.args.flow.now) _ c.requires.trees c.in_ok-copied_flow.ensures c.new-2.ensures
