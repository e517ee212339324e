use Rattle.affc_compare.proofs.ExampleProofs.{one_loop_is_shared, shared_by_branches}
use Rattle.affc_compare.proofs.examples.source.Goals as goal

pub returns : goal.returns
returns c = record { one_loop_is_shared = one_loop_is_shared; shared_by_branches = shared_by_branches }
