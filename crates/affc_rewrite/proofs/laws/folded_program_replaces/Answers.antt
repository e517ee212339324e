use Rattle.affc_rewrite.proofs.FoldsPrinted.{folded_program_replaces}
use Rattle.affc_rewrite.proofs.laws.folded_program_replaces.Goals as goal

pub returns : goal.returns
returns c = record { law = folded_program_replaces }
