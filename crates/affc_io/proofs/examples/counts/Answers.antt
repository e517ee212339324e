use Rattle.affc_io.proofs.ExampleProofs as lemma
use Rattle.affc_io.proofs.examples.counts.Goals as goal

pub returns : goal.returns
returns c = record { rise_to_their_end = lemma.counts_rise_to_their_end; stay_only_where_told = lemma.stays_only_where_told }
