use Rattle.affc_ast.proofs.OwnRuns.{follows_itself}
use Rattle.affc_ast.proofs.laws.a_run_is_its_own.Goals as goal

pub returns : goal.returns
returns c = follows_itself
