use Rattle.std.proofs.Common.{◌≡◌, length, Some, refl}
use Rattle.std.specs.Prelude.{slice_get}
use Rattle.std.proofs.lemmas.Option.{slice_get_read}
use Rattle.affc_trace.specs.Dataflow.{LivePair}
use Rattle.affc_basis.specs.Listed.{shape_of}
use Rattle.affc_folds.proofs.AgainLemmas.{folded_later, either_folded, its_shape}
use Rattle.affc_folds.proofs.tries.in_full.Goals as goal

pub returns-clause-folded : goal.returns-clause-folded
returns-clause-folded g c =
    let answers = g.F.Cost.answers c.args.cost.now.cost in
    let program = c.args.temporary.now.asked.program.now in
    let pairs = LivePair program c.args.temporary.now.asked.schedule.now in
    let given = c.args.temporary.now.asked.bases.now in
    let array = c.args.temporary.now.array.0 in
    let fold = c.args.chosen.0 in
    let choice = c.args.chosen.1 in
    let there : slice_get c.args.bases.now choice.number ≡ Some c.in-Some.basis.now =
    let h = c.in-Some.ensures.lookup in slice_get_read c.args.bases.now (length c.args.bases.now) choice.number c.in-Some.basis.now refl h.3.0 h.1 in
    let later = folded_later answers program pairs array given c.args.budget.now c.tried.new.budget c.tried.ensures.later fold choice c.requires.folded in
    either_folded answers program pairs array given c.tried.new.budget fold choice later (shape_of c.in-Some.basis.now)
    (its_shape answers program pairs array given c.tried.new.budget fold choice later (length c.args.temporary.now.info.now.extents) c.args.bases.now c.requires.bases c.requires.rows c.requires.none_given c.in-Some.basis.now there)
    c.in_ok-one.one c.in_ok-one.ensures.tried c.with_marks-full.result c.with_marks-full.ensures
