use Rattle.affc_rewrite.proofs.FoldsPrinted.{printed_folds}
use Rattle.affc_rewrite.proofs.laws.printed_folds.Goals as goal

pub returns : goal.returns
returns c = record { law = printed_folds }
