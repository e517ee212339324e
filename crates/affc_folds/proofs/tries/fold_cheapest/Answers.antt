use Rattle.std.proofs.Common.{◌≤◌, Option, length, sym, subst}
use Rattle.std.specs.Prelude.{IfSome, IfNone}
use Rattle.affc_trace.specs.Dataflow.{LivePair}
use Rattle.affc_basis.specs.declared.fold.Fold.{Fold}
use Rattle.affc_weigh.specs.declared.choice.Choice.{Choice}
use Rattle.affc_weigh.specs.Choices.{IsChosen}
use Rattle.affc_folds.specs.Folding.{IsSpent}
use Rattle.affc_folds.specs.Tries.{IsFolded}
use Rattle.affc_quast.specs.Seen.{trees_of}
use Rattle.affc_folds.proofs.FoldLemmas.{few_dimensions}
use Rattle.affc_folds.proofs.TryLemmas.{none_left, chosen_rows, one_taken}
use Rattle.affc_folds.proofs.tries.fold_cheapest.Goals as goal

pub dimensions_of-requires : goal.dimensions_of-requires
dimensions_of-requires g c = few_dimensions c.args.asked.now.program.now c.args.asked.now.nest.now (trees_of c.args.asked.now.flow.now) c.args.asked.now.schedule.now c.requires.analysed c.args.array.0 c.args.info.now c.requires.there

pub listed-requires : goal.listed-requires
listed-requires g c = subst (λ n. n ≤ 4) (sym c.dimensions_of.ensures) (few_dimensions c.args.asked.now.program.now c.args.asked.now.nest.now (trees_of c.args.asked.now.flow.now) c.args.asked.now.schedule.now c.requires.analysed c.args.array.0 c.args.info.now c.requires.there)

pub returns-in-None-clause-none : goal.returns-in-None-clause-none
returns-in-None-clause-none g c =
    subst (λ (o : Option (Fold × Choice)). IfNone o (IsSpent c.all_tried.new.budget)) c.in-None.is
    (none_left (g.F.Cost.answers c.args.cost.now.cost) c.args.asked.now.program.now (LivePair c.args.asked.now.program.now c.args.asked.now.schedule.now) c.args.array.0 c.all_tried.new.budget c.args.asked.now.bases.now
    (length c.args.info.now.extents) c.in_ok-found.found c.in_ok-found.ensures.found c.in_ok-found.ensures.one_each (few_dimensions c.args.asked.now.program.now c.args.asked.now.nest.now (trees_of c.args.asked.now.flow.now) c.args.asked.now.schedule.now c.requires.analysed c.args.array.0 c.args.info.now c.requires.there) c.in_ok-choose.field-0 c.in_ok-choose.ensures.none)

pub in_full-requires-clause-rows : goal.in_full-requires-clause-rows
in_full-requires-clause-rows g c =
    chosen_rows (g.F.Cost.answers c.args.cost.now.cost) c.args.asked.now.program.now (LivePair c.args.asked.now.program.now c.args.asked.now.schedule.now) c.args.array.0 c.all_tried.new.budget c.args.asked.now.bases.now
    (length c.args.info.now.extents) c.in_ok-found.found c.in_ok-found.ensures.found c.in_ok-found.ensures.one_each c.in-Some.chosen.0 c.in-Some.chosen.1
    (subst (λ (o : Option (Fold × Choice)). IfSome o (λ t. IsChosen c.in_ok-found.found t.0 t.1)) c.in-Some.is c.in_ok-choose.ensures.some)

pub in_full-requires-clause-folded : goal.in_full-requires-clause-folded
in_full-requires-clause-folded g c =
    subst (λ (o : Option (Fold × Choice)). IfSome o (IsFolded (g.F.Cost.answers c.args.cost.now.cost) c.args.asked.now.program.now (LivePair c.args.asked.now.program.now c.args.asked.now.schedule.now) c.args.asked.now.bases.now c.all_tried.new.budget c.args.array.0)) c.in-Some.is
    (one_taken (g.F.Cost.answers c.args.cost.now.cost) c.args.asked.now.program.now (LivePair c.args.asked.now.program.now c.args.asked.now.schedule.now) c.args.array.0 c.all_tried.new.budget c.args.asked.now.bases.now
    (length c.args.info.now.extents) c.in_ok-found.found c.in_ok-found.ensures.found c.in_ok-found.ensures.one_each c.requires.none_given c.in_ok-choose.field-0 c.in_ok-choose.ensures.some)

pub returns-then-not-quick-clause-some : goal.returns-then-not-quick-clause-some
returns-then-not-quick-clause-some g c =
    subst (λ (o : Option (Fold × Choice)). IfSome o (IsFolded (g.F.Cost.answers c.args.cost.now.cost) c.args.asked.now.program.now (LivePair c.args.asked.now.program.now c.args.asked.now.schedule.now) c.args.asked.now.bases.now c.all_tried.new.budget c.args.array.0)) c.in-Some.is
    (one_taken (g.F.Cost.answers c.args.cost.now.cost) c.args.asked.now.program.now (LivePair c.args.asked.now.program.now c.args.asked.now.schedule.now) c.args.array.0 c.all_tried.new.budget c.args.asked.now.bases.now
    (length c.args.info.now.extents) c.in_ok-found.found c.in_ok-found.ensures.found c.in_ok-found.ensures.one_each c.requires.none_given c.in_ok-choose.field-0 c.in_ok-choose.ensures.some)
