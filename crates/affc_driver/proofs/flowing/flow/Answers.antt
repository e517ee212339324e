use Rattle.std.proofs.lemmas.Result.{IfOk-weaker, IfErr-weaker}
use Rattle.affc_driver.proofs.flowing.flow.Goals as goal

pub returns-clause-ok : goal.returns-clause-ok
returns-clause-ok c = IfOk-weaker c.flow_program.result _ _ (λ text h. h c.args.source.now c.in_ok-program.ensures.ok.reads c.in_ok-program.ensures.ok.bare) c.flow_program.ensures.ok

pub returns-clause-err : goal.returns-clause-err
returns-clause-err c = IfErr-weaker c.flow_program.result _ _ (λ refusal h. h c.args.source.now c.in_ok-program.ensures.ok.reads c.in_ok-program.ensures.ok.bare) c.flow_program.ensures.err
