use Rattle.affc_scan.proofs.Whole as lemma
use Rattle.affc_scan.proofs.laws.own_nest.Goals as goal

pub returns : goal.returns
returns c = record { law = lemma.own_nest }
