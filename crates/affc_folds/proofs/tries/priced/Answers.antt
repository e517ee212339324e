use Rattle.affc_trace.specs.Dataflow.{LivePair}
use Rattle.affc_basis.specs.Listed.{shape_of}
use Rattle.affc_folds.proofs.TryLemmas.{have_tops, are_moduli, one_tried}
use Rattle.affc_folds.proofs.tries.priced.Goals as goal

pub rate-requires-clause-tops : goal.rate-requires-clause-tops
rate-requires-clause-tops g c = have_tops c.args.temporary.now.asked.program.now (LivePair c.args.temporary.now.asked.program.now c.args.temporary.now.asked.schedule.now) c.args.temporary.now.array.0 c.in_ok-fold.fold c.requires.temporary.analysed.has.plain c.requires.temporary.analysed.some c.in_ok-fold.ensures.fold

pub rate-requires-clause-moduli : goal.rate-requires-clause-moduli
rate-requires-clause-moduli g c = are_moduli c.args.temporary.now.asked.program.now (LivePair c.args.temporary.now.asked.program.now c.args.temporary.now.asked.schedule.now) c.args.temporary.now.array.0 c.in_ok-fold.fold c.requires.temporary.analysed.has.plain c.requires.temporary.analysed.some c.in_ok-fold.ensures.fold

pub returns-clause-tried : goal.returns-clause-tried
returns-clause-tried g c =
    let rated = c.in_ok-rate.ensures in
    one_tried c.args.temporary.now.asked.program.now (LivePair c.args.temporary.now.asked.program.now c.args.temporary.now.asked.schedule.now) c.args.temporary.now.array.0 c.in_ok-fold.fold c.requires.temporary.analysed.has.plain c.requires.temporary.analysed.some c.in_ok-fold.ensures.fold
    (g.F.Cost.answers c.args.cost.now.cost) c.fold_along.new.budget (shape_of c.args.basis.now) c.in_ok-fold.ensures.shape c.in_ok-fold.ensures.bound
    c.in_ok-rate.field-0 rated.none rated.known rated.fold rated.values rated.cost rated.marked
