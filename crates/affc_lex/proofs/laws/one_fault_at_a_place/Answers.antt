use Rattle.affc_lex.proofs.Exact.{same_fault}
use Rattle.affc_lex.proofs.laws.one_fault_at_a_place.Goals as goal

pub returns : goal.returns
returns c = same_fault
