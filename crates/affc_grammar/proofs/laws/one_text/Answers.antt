-- The lemmas.
use Rattle.affc_grammar.proofs.Texts.{one_text}
use Rattle.affc_grammar.proofs.laws.one_text.Goals as goal

pub returns : goal.returns
returns c = one_text
