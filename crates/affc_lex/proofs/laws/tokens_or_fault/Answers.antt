use Rattle.affc_lex.proofs.Total.{tokens_or_fault}
use Rattle.affc_lex.proofs.laws.tokens_or_fault.Goals as goal

pub returns : goal.returns
returns c = tokens_or_fault
