use Rattle.affc_cprint.proofs.Whole.{keeps_rules, well_named}
use Rattle.affc_cprint.proofs.laws.the_printed_text_decides.Goals as goal

pub returns : goal.returns
returns c = λ p. (keeps_rules p, well_named p)
