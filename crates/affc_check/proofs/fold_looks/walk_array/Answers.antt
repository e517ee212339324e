use Rattle.std.proofs.Common.{sym, subst}
use Rattle.std.proofs.lemmas.Result.{IfOk-weaker, IfErr-weaker}
use Rattle.affc_life.specs.Clashes.{live_walk}
use Rattle.affc_check.specs.Walked.{AreAlong, Walked, Breaks}
use Rattle.affc_check.proofs.fold_looks.walk_array.Goals as goal

pub walk_parts-requires-clause-along : goal.walk_parts-requires-clause-along
walk_parts-requires-clause-along c =
    let of = c.args.of.now in
    subst (AreAlong c.args.along) (sym (c.requires.setting.parts.clashing (live_walk of.nest.now of.schedule.now c.args.array.0))) c.requires.along

pub returns-clause-ok : goal.returns-clause-ok
returns-clause-ok c =
    let of = c.args.of.now in
    IfOk-weaker c.walk_parts.result _ _
    (λ new h. subst (Walked c.args.along c.args.carried new) (c.requires.setting.parts.clashing (live_walk of.nest.now of.schedule.now c.args.array.0)) h) c.walk_parts.ensures.ok

pub returns-clause-past : goal.returns-clause-past
returns-clause-past c =
    let of = c.args.of.now in
    IfErr-weaker c.walk_parts.result _ _
    (λ e h l. subst (Breaks c.args.along) (c.requires.setting.parts.clashing (live_walk of.nest.now of.schedule.now c.args.array.0)) (h l)) c.walk_parts.ensures.past
