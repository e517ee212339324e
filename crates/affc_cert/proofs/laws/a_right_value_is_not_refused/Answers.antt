use Rattle.affc_cert.proofs.Broken.{right_is_not_refused}
use Rattle.affc_cert.proofs.laws.a_right_value_is_not_refused.Goals as goal

pub returns : goal.returns
returns c = right_is_not_refused
