use Rattle.affc_quast.proofs.ExampleProofs as lemma
use Rattle.affc_quast.proofs.examples.leaves.Goals as goal

pub returns : goal.returns
returns c = record { in_order = lemma.leaves_in_order; padded_behind = lemma.padded_behind; ranges_of_quotients = lemma.ranges_of_quotients }
