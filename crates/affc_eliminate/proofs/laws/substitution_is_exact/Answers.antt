use Rattle.affc_eliminate.proofs.Exactness.{substitution_is_exact}
use Rattle.affc_eliminate.proofs.laws.substitution_is_exact.Goals as goal

pub returns : goal.returns
returns c = substitution_is_exact
