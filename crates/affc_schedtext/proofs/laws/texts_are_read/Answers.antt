use Rattle.std.proofs.Common.{◌∙◌, append-nil}
use Rattle.affc_schedtext.specs.Grammar.{text_symbols}
use Rattle.affc_schedtext.proofs.Texts as x
use Rattle.affc_schedtext.proofs.Roomy.{roomy_text}
use Rattle.affc_schedtext.proofs.laws.texts_are_read.Goals as goal

pub returns : goal.returns
returns c = record {
  spelled = λ o room ss t e. x.spelled o room ss t _ e ∙ append-nil (text_symbols t);
  read = λ o room t le. x.text_read o t room le;
  stopped = x.stops_at;
  enough = λ o room ss le e. (roomy_text o room).never ss le e;
}
