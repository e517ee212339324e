use Rattle.affc_check.proofs.ReadFor.{read_is_for}
use Rattle.affc_check.proofs.laws.read_is_for.Goals as goal

pub returns : goal.returns
returns c = record { law = read_is_for }
