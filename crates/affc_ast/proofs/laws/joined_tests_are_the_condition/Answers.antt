use Rattle.affc_ast.proofs.JoinedLemmas.{tests}
use Rattle.affc_ast.proofs.laws.joined_tests_are_the_condition.Goals as goal

pub returns : goal.returns
returns c = tests
