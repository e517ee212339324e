use Rattle.affc_cert.proofs.Broken.{one_refusal}
use Rattle.affc_cert.proofs.laws.a_value_has_one_refusal.Goals as goal

pub returns : goal.returns
returns c = one_refusal
