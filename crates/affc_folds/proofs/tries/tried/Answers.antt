use Rattle.std.proofs.Common.{Option, subst}
use Rattle.affc_trace.specs.Dataflow.{LivePair}
use Rattle.affc_basis.specs.Listed.{shape_of}
use Rattle.affc_weigh.specs.declared.ratings.Rated.{Rated}
use Rattle.affc_folds.specs.Tries.{IsTried}
use Rattle.affc_folds.proofs.TryLemmas.{worth_tried}
use Rattle.affc_folds.proofs.tries.tried.Goals as goal

pub returns-clause-tried : goal.returns-clause-tried
returns-clause-tried g c =
    let answers = g.F.Cost.answers c.args.cost.now.cost in
    let program = c.args.temporary.now.asked.program.now in
    let pairs = LivePair program c.args.temporary.now.asked.schedule.now in
    let shape = shape_of c.args.basis.now in
    let rated = subst (λ (o : Option Rated). IsTried answers program pairs c.priced.new.budget c.args.temporary.now.array.0 shape o) c.in-Some.is c.in_ok-one.ensures.tried in
    worth_tried answers program pairs c.args.temporary.now.array.0 c.priced.new.budget shape c.in-Some.one rated c.in_ok-worth_while.field-0 c.in_ok-worth_while.ensures
