use Rattle.affc_folds.proofs.CheapestLemmas as lemma
use Rattle.affc_folds.proofs.laws.none_costs_less.Goals as goal

pub returns : goal.returns
returns g c = record { law = lemma.none_costs_less g.C.Costing.answers g.P.ArrayConflicts.pairs }
