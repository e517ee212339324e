use Rattle.std.proofs.lemmas.Result.{IfOk-weaker, IfErr-weaker}
use Rattle.affc_replay.proofs.replaying.replay.Goals as goal

pub returns-clause-ok : goal.returns-clause-ok
returns-clause-ok c = IfOk-weaker c.replay_program.result _ _ (λ r h. h c.args.source.now c.in_ok-program.ensures.ok.reads c.in_ok-program.ensures.ok.bare) c.replay_program.ensures.ok

pub returns-clause-err : goal.returns-clause-err
returns-clause-err c = IfErr-weaker c.replay_program.result _ _ (λ refusal h. h c.args.source.now c.in_ok-program.ensures.ok.reads c.in_ok-program.ensures.ok.bare) c.replay_program.ensures.err
