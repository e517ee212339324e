use Rattle.affc_loopprint.proofs.ExampleProofs as lemma
use Rattle.affc_loopprint.proofs.examples.programs.Goals as goal

pub returns : goal.returns
returns c = record { loops_are_kept = lemma.loops_are_kept; kept_names_clash = lemma.kept_names_clash; locals_are_lost = lemma.locals_are_lost }
