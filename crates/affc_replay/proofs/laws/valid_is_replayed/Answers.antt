use Rattle.affc_replay.proofs.Valid as lemma
use Rattle.affc_replay.proofs.laws.valid_is_replayed.Goals as goal

pub returns : goal.returns
returns c = record { law = lemma.valid_is_replayed c.folds_keep_times.ensures.law c.programs_scan.ensures.law c.same_loops_scan.ensures.law c.folds_well_named.ensures.law c.folds_compile.ensures.law }
