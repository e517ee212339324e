use Rattle.affc_lines.proofs.ExampleProofs as lemma
use Rattle.affc_lines.proofs.examples.programs.Goals as goal

pub returns : goal.returns
returns c = record { numbers_are_named = lemma.numbers_are_named; runs_are_stuck = lemma.runs_are_stuck; programs_are_wrong = lemma.programs_are_wrong; schedules_are_wrong = lemma.schedules_are_wrong }
