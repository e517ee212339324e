use Rattle.affc_nest.proofs.DivisionLemmas as lemma
use Rattle.affc_nest.proofs.laws.divisions_are_quotients.Goals as goal

pub returns : goal.returns
returns c = record { rows = lemma.divisions_are_quotients; ranges = lemma.quotients_keep_ranges }
