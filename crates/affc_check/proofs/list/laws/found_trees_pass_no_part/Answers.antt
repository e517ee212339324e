use Rattle.affc_check.proofs.list.FoundLemmas.{found_trees_pass_no_part}
use Rattle.affc_check.proofs.list.laws.found_trees_pass_no_part.Goals as goal

pub returns : goal.returns
returns c = record { law = found_trees_pass_no_part }
