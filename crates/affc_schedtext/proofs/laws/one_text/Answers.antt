use Rattle.affc_schedtext.proofs.Texts as x
use Rattle.affc_schedtext.proofs.laws.one_text.Goals as goal

pub returns : goal.returns
returns c = x.one_text
