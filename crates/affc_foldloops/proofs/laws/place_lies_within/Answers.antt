use Rattle.affc_foldloops.proofs.Remainder.{place_lies_within}
use Rattle.affc_foldloops.proofs.laws.place_lies_within.Goals as goal

pub returns : goal.returns
returns c = record { law = place_lies_within }
