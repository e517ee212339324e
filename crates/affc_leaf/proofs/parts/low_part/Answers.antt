use Rattle.std.proofs.Common.{◌+◌, ◌-◌, ◌≤◌, sym, subst}
use Rattle.std.specs.Prelude.{FitsSigned}
use Rattle.std.specs.Int.{w64}
use Rattle.std.proofs.lemmas.Int.{to_z-of_z}
use Rattle.std.proofs.lemmas.Result.{IfOk-weaker}
use Rattle.affc_leaf.specs.Bounds.{size}
use Rattle.affc_leaf.specs.Parts.{Ready}
use Rattle.affc_leaf.proofs.Steps.{low_part_ready, part_points}
use Rattle.affc_leaf.proofs.parts.low_part.Goals as goal

pub returns-clause-ready : goal.returns-clause-ready
returns-clause-ready c =
    let f : FitsSigned w64 c.args.at = c.ranges.at in
    let e = simp to_z-of_z at c.lower_half.ensures in
    IfOk-weaker c.lower_half.result _ (λ v. Ready c.args.system.now.columns v.items (c.args.next + 1) c.args.left) (λ v h. subst (λ w. Ready c.args.system.now.columns w (c.args.next + 1) c.args.left) (sym h) (low_part_ready c.args.system.now.columns c.args.bounds.now c.args.next c.args.left c.args.j c.args.at c.requires.ready c.requires.room c.requires.there c.requires.low_in c.requires.high_in)) e

pub returns-clause-count : goal.returns-clause-count
returns-clause-count c =
    let f : FitsSigned w64 c.args.at = c.ranges.at in
    let e = simp to_z-of_z at c.lower_half.ensures in
    IfOk-weaker c.lower_half.result _ (λ v. size v.items ≤ size c.args.bounds.now) (λ v h. subst (λ w. size w ≤ size c.args.bounds.now) (sym h) ((part_points c.args.bounds.now c.args.j c.args.at c.args.next c.requires.there c.requires.low_in c.requires.high_in).0)) e
