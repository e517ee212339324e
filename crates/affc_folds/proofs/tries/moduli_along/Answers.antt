use Rattle.std.proofs.Common.{sym, subst}
use Rattle.std.specs.List.{All}
use Rattle.affc_system.specs.Pairs.{IsSubscript}
use Rattle.affc_quast.specs.Seen.{trees_of}
use Rattle.affc_folds.proofs.FoldLemmas.{near_parameters, some_in_context, extents_are_forms}
use Rattle.affc_folds.proofs.tries.moduli_along.Goals as goal

pub moduli-requires-clause-near : goal.moduli-requires-clause-near
moduli-requires-clause-near c = near_parameters c.args.temporary.now.asked.program.now c.args.temporary.now.asked.nest.now (trees_of c.args.temporary.now.asked.flow.now) c.args.temporary.now.asked.schedule.now c.requires.temporary.analysed

pub moduli-requires-clause-some : goal.moduli-requires-clause-some
moduli-requires-clause-some c = some_in_context c.args.temporary.now.asked.program.now c.args.temporary.now.asked.nest.now (trees_of c.args.temporary.now.asked.flow.now) c.args.temporary.now.asked.schedule.now c.requires.temporary.analysed

pub moduli-requires-clause-extents : goal.moduli-requires-clause-extents
moduli-requires-clause-extents c =
    subst (All (IsSubscript c.args.temporary.now.asked.nest.now.context.columns)) (sym c.as_slice-extents.ensures)
    (extents_are_forms c.args.temporary.now.asked.program.now c.args.temporary.now.asked.nest.now (trees_of c.args.temporary.now.asked.flow.now) c.args.temporary.now.asked.schedule.now c.requires.temporary.analysed c.args.temporary.now.array.0 c.args.temporary.now.info.now c.requires.temporary.there)
