use Rattle.affc_generate.proofs.ExampleProofs as lemma
use Rattle.affc_generate.proofs.examples.stages.Goals as goal

pub returns-clause-one_stage : goal.returns-clause-one_stage
returns-clause-one_stage c = lemma.one_stage

pub returns-clause-two_stages : goal.returns-clause-two_stages
returns-clause-two_stages c = lemma.two_stages

pub returns-clause-two_times : goal.returns-clause-two_times
returns-clause-two_times c = lemma.two_times

pub returns-clause-three_stages : goal.returns-clause-three_stages
returns-clause-three_stages c = lemma.three_stages

pub returns-clause-three_times : goal.returns-clause-three_times
returns-clause-three_times c = lemma.three_times
