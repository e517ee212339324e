use Rattle.affc_questions.proofs.PassLemmas.{found_trees_pass_no_limit}
use Rattle.affc_questions.proofs.laws.found_trees_pass_no_limit.Goals as goal

pub returns : goal.returns
returns c = record { law = found_trees_pass_no_limit }
