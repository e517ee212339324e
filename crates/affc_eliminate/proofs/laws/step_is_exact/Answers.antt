use Rattle.affc_eliminate.proofs.Exactness.{step_is_exact}
use Rattle.affc_eliminate.proofs.laws.step_is_exact.Goals as goal

pub returns : goal.returns
returns c = step_is_exact
