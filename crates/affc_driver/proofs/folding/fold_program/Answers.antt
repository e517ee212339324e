use Rattle.std.specs.Prelude.{option_map}
use Rattle.std.proofs.lemmas.Result.{IfOk-weaker, IfErr-weaker}
use Rattle.affc_plain.proofs.Programs.{reads_plain}
use Rattle.affc_driver.proofs.Compiled.{plan_scheduled, plan_limited}
use Rattle.affc_driver.proofs.Counted.{plenty_here}
use Rattle.affc_driver.proofs.Ranked.{reads_naming_arrays}
use Rattle.affc_driver.proofs.folding.fold_program.Goals as goal

pub plan_of-requires-clause-plain : goal.plan_of-requires-clause-plain
plan_of-requires-clause-plain g c = reads_plain c.requires.0 c.args.program.now c.requires.1.reads c.requires.1.bare

pub plan_of-requires-clause-counted : goal.plan_of-requires-clause-counted
plan_of-requires-clause-counted g c = c.reads_counted.ensures.plain c.requires.0 c.args.program.now c.requires.1.reads

pub compile-requires-clause-plain : goal.compile-requires-clause-plain
compile-requires-clause-plain g c = reads_plain c.requires.0 c.args.program.now c.requires.1.reads c.requires.1.bare

pub compile-requires-clause-arrays : goal.compile-requires-clause-arrays
compile-requires-clause-arrays g c = reads_naming_arrays c.requires.0 c.args.program.now c.requires.1.reads

pub compile-requires-clause-fits : goal.compile-requires-clause-fits
compile-requires-clause-fits g c = plan_scheduled c.args.program.now (option_map (λ t. t.now) c.args.schedule) c.in_ok-plan.plan c.in_ok-plan.ensures.planned

pub compile-requires-clause-slight : goal.compile-requires-clause-slight
compile-requires-clause-slight g c = plan_limited c.args.program.now (option_map (λ t. t.now) c.args.schedule) c.in_ok-plan.plan c.in_ok-plan.ensures.planned

pub returns-clause-ok : goal.returns-clause-ok
returns-clause-ok g c = IfOk-weaker c.compile.result _ _ (λ made h. h (option_map (λ t. t.now) c.args.schedule) c.in_ok-plan.ensures.planned) c.compile.ensures.ok

pub returns-clause-err : goal.returns-clause-err
returns-clause-err g c = IfErr-weaker c.compile.result _ _ (λ refusal h. h (option_map (λ t. t.now) c.args.schedule) c.in_ok-plan.ensures.planned) c.compile.ensures.err

pub returns-clause-short : goal.returns-clause-short
returns-clause-short g c = IfErr-weaker c.compile.result _ _ (λ refusal h spent. h spent (option_map (λ t. t.now) c.args.schedule) c.in_ok-plan.ensures.planned) c.compile.ensures.short

pub returns-clause-plenty : goal.returns-clause-plenty
returns-clause-plenty g c text reads bare enough =
    c.compile.ensures.plenty
    (plenty_here c.args.program.now c.in_ok-plan.plan c.args.budget.now.limit (option_map (λ t. t.now) c.args.schedule) c.in_ok-plan.ensures.planned text reads bare enough)
