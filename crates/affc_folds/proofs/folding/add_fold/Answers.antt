use Rattle.std.proofs.Common.{refl, subst}
use Rattle.std.specs.Prelude.{IfNone, IfSome}
use Rattle.affc_trace.specs.Dataflow.{LivePair}
use Rattle.affc_folds.specs.Folding.{IsSpent}
use Rattle.affc_folds.specs.Tries.{IsFolded}
use Rattle.affc_folds.proofs.ListLemmas.{one_more, one_whole}
use Rattle.affc_folds.proofs.folding.add_fold.Goals as goal

pub returns-in_ok-push-in-Some-2-clause-more : goal.returns-in_ok-push-in-Some-2-clause-more
returns-in_ok-push-in-Some-2-clause-more g c =
    one_more (g.F.Cost.answers c.args.cost.now.cost) c.args.asked.now.program.now (LivePair c.args.asked.now.program.now c.args.asked.now.schedule.now) c.args.asked.now.bases.now c.args.budget.now c.fold_array.new.budget c.fold_array.ensures.later c.args.array.0 c.args.folded.now.folds c.args.folded.now.choices c.requires.below
    c.args.array c.in-Some.fold c.in-Some.choice c.push.new.self c.push-in-Some.new.self refl c.in_ok-push-in-Some.ensures.ok c.in_ok-push-in-Some-2.ensures.ok
    (subst (λ taken. IfSome taken (IsFolded (g.F.Cost.answers c.args.cost.now.cost) c.args.asked.now.program.now (LivePair c.args.asked.now.program.now c.args.asked.now.schedule.now) c.args.asked.now.bases.now c.fold_array.new.budget c.args.array.0)) c.in-Some.is c.in_ok-fold.ensures.some)

pub returns-in-None-clause-more : goal.returns-in-None-clause-more
returns-in-None-clause-more g c =
    one_whole (g.F.Cost.answers c.args.cost.now.cost) c.args.asked.now.program.now (LivePair c.args.asked.now.program.now c.args.asked.now.schedule.now) c.args.asked.now.bases.now c.args.budget.now c.fold_array.new.budget c.fold_array.ensures.later c.args.array.0 c.args.folded.now.folds c.args.folded.now.choices c.requires.below
    (subst (λ taken. IfNone taken (IsSpent c.fold_array.new.budget)) c.in-None.is c.in_ok-fold.ensures.none)
