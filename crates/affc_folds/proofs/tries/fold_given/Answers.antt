use Rattle.std.proofs.Common.{length, refl}
use Rattle.affc_trace.specs.Dataflow.{LivePair}
use Rattle.affc_basis.specs.Listed.{shape_of}
use Rattle.affc_folds.proofs.TryLemmas.{given_folded}
use Rattle.affc_folds.proofs.tries.fold_given.Goals as goal

pub returns-clause-some : goal.returns-clause-some
returns-clause-some g c =
    given_folded (g.F.Cost.answers c.args.cost.now.cost) c.args.asked.now.program.now (LivePair c.args.asked.now.program.now c.args.asked.now.schedule.now) c.args.array.0 c.tried.new.budget c.args.asked.now.bases.now
    (length c.args.info.now.extents) (shape_of c.args.basis.now) c.in_ok-one.field-0 c.in_ok-one.ensures.tried c.requires.rows c.requires.given c.in-Some.one _ c.in-Some.is refl c.new.ensures
