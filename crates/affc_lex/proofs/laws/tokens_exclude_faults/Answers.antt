use Rattle.affc_lex.proofs.Exact.{no_fault}
use Rattle.affc_lex.proofs.laws.tokens_exclude_faults.Goals as goal

pub returns : goal.returns
returns c = no_fault
