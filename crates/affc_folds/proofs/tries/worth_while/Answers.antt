use Rattle.std.proofs.Common.{◌≡◌, ◌≤◌, length, sym, subst}
use Rattle.std.specs.List.{All}
use Rattle.affc_rows.specs.Forms.{Affine}
use Rattle.affc_quast.specs.Seen.{trees_of}
use Rattle.affc_folds.proofs.FoldLemmas.{extent_widths, few_dimensions}
use Rattle.affc_folds.proofs.tries.worth_while.Goals as goal

pub whole_cost-requires-clause-widths : goal.whole_cost-requires-clause-widths
whole_cost-requires-clause-widths g c =
    subst (All (λ (e : Affine). length c.args.temporary.now.asked.nest.now.params ≡ length e.coefs)) (sym c.as_slice.ensures)
    (extent_widths c.args.temporary.now.asked.program.now c.args.temporary.now.asked.nest.now (trees_of c.args.temporary.now.asked.flow.now) c.args.temporary.now.asked.schedule.now c.requires.temporary.analysed c.args.temporary.now.array.0 c.args.temporary.now.info.now c.requires.temporary.there)

pub whole_cost-requires-clause-few : goal.whole_cost-requires-clause-few
whole_cost-requires-clause-few g c =
    subst (λ es. length es ≤ 4) (sym c.as_slice.ensures)
    (few_dimensions c.args.temporary.now.asked.program.now c.args.temporary.now.asked.nest.now (trees_of c.args.temporary.now.asked.flow.now) c.args.temporary.now.asked.schedule.now c.requires.temporary.analysed c.args.temporary.now.array.0 c.args.temporary.now.info.now c.requires.temporary.there)
