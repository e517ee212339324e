use Rattle.std.specs.Prelude.{option_map}
use Rattle.std.proofs.lemmas.Result.{err_from_is_err_and, IfOk-weaker, IfErr-weaker}
use Rattle.affc_driver.proofs.Refused.{unread_refuses}
use Rattle.affc_driver.proofs.folding.fold.Goals as goal

pub returns-clause-ok : goal.returns-clause-ok
returns-clause-ok g c = IfOk-weaker c.fold_program.result _ _ (λ made h. h c.args.source.now c.in_ok-program.ensures.ok.reads c.in_ok-program.ensures.ok.bare) c.fold_program.ensures.ok

pub returns-clause-err : goal.returns-clause-err
returns-clause-err g c = IfErr-weaker c.fold_program.result _ _ (λ refusal h. h c.args.source.now c.in_ok-program.ensures.ok.reads c.in_ok-program.ensures.ok.bare) c.fold_program.ensures.err

pub returns-clause-short : goal.returns-clause-short
returns-clause-short g c = IfErr-weaker c.fold_program.result _ _ (λ refusal h spent. h spent c.args.source.now c.in_ok-program.ensures.ok.reads c.in_ok-program.ensures.ok.bare) c.fold_program.ensures.short

pub returns-clause-plenty : goal.returns-clause-plenty
returns-clause-plenty g c = c.fold_program.ensures.plenty c.args.source.now c.in_ok-program.ensures.ok.reads c.in_ok-program.ensures.ok.bare
