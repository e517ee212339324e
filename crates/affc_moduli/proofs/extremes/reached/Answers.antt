use Rattle.std.proofs.Common.{sym, subst, arith}
use Rattle.affc_moduli.specs.Asked.{IsFarthestOf}
use Rattle.affc_moduli.proofs.AskedLemmas.{fs_ready, gs_ready, far, farthest_of}
use Rattle.affc_moduli.proofs.Free.{known_ceiling}
use Rattle.affc_moduli.proofs.Ties.{not_true, before_all}
use Rattle.affc_moduli.proofs.extremes.reached.Goals as goal

pub bound_of-bound-requires-clause-ceiling : goal.bound_of-bound-requires-clause-ceiling
bound_of-bound-requires-clause-ceiling c =
    let asked = c.args.asked.now in
    let known = c.level_of-known.ensures in
    known_ceiling c.loop-i.i asked.regions.now asked.line.fs.now asked.line.gs.now (fs_ready asked c.requires.asked) (gs_ready asked c.requires.asked) c.loop-i.sought.level c.level_of-known.result.most known.natural known.within known.either
    c.loop-i.invariant.forward c.loop-i.invariant.backward

pub returns-in-Err-Budget-clause-reach : goal.returns-in-Err-Budget-clause-reach
returns-in-Err-Budget-clause-reach c = far c.args.asked.now c.requires.asked c.bound_of-bound.result.most c.bound_of-bound.ensures

pub returns-clause-reach : goal.returns-clause-reach
returns-clause-reach c =
    let asked = c.args.asked.now in
    let s = c.loop-i.sought in
    subst (IsFarthestOf asked) (sym c.shown_of-shown.ensures)
    (farthest_of asked c.requires.asked c.args.aim.start s c.loop-i.invariant.sought (before_all c.loop-i.i asked.regions.now asked.line.fs.now s.level (omega arith) c.loop-i.invariant.forward)
    (before_all c.loop-i.i asked.regions.now asked.line.gs.now s.level (omega arith) c.loop-i.invariant.backward) (c.is_missed.ensures.found (not_true c.is_missed.result c.if-is_missed.false)))
