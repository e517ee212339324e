use Rattle.affc_cert.proofs.Within.{is_within}
use Rattle.affc_cert.proofs.laws.read_is_within.Goals as goal

pub returns : goal.returns
returns c = is_within
