use Rattle.affc_trace.proofs.Sources.{source_in_its_own_words}
use Rattle.affc_trace.proofs.laws.source_in_its_own_words.Goals as goal

pub returns : goal.returns
returns c = record { law = source_in_its_own_words }
