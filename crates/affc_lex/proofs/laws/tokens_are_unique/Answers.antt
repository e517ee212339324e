use Rattle.affc_lex.proofs.Exact.{one_list}
use Rattle.affc_lex.proofs.laws.tokens_are_unique.Goals as goal

pub returns : goal.returns
returns c = one_list
