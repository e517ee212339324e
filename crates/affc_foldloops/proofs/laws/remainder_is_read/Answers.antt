use Rattle.affc_foldloops.proofs.Remainder.{remainder_is_read}
use Rattle.affc_foldloops.proofs.laws.remainder_is_read.Goals as goal

pub returns : goal.returns
returns c = record { law = remainder_is_read }
