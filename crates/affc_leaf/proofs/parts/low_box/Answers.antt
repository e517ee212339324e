use Rattle.std.proofs.Common.{◌≡◌, ◌+◌, ◌-◌, sym, subst}
use Rattle.std.specs.Prelude.{FitsSigned}
use Rattle.std.specs.Int.{w64}
use Rattle.std.proofs.lemmas.Int.{to_z-of_z}
use Rattle.std.proofs.lemmas.Result.{IfOk-weaker}
use Rattle.affc_leaf.specs.Bounds.{raised, size}
use Rattle.affc_leaf.specs.Parts.{Ready}
use Rattle.affc_leaf.proofs.Halves.{halves_points, some_points}
use Rattle.affc_leaf.proofs.Steps.{low_ready}
use Rattle.affc_leaf.proofs.parts.low_box.Goals as goal

pub returns-clause-fuel : goal.returns-clause-fuel
returns-clause-fuel c = (low_ready c.args.system.now.columns c.args.bounds.now c.args.next c.args.left c.args.j c.args.at c.requires.ready c.requires.free c.requires.low_in c.requires.high_in c.requires.half).0

pub returns-clause-more : goal.returns-clause-more
returns-clause-more c = some_points (raised c.args.bounds.now c.args.j c.args.at c.args.next)

pub returns-clause-ready : goal.returns-clause-ready
returns-clause-ready c =
    let f : FitsSigned w64 c.args.at = c.ranges.at in
    let e = simp to_z-of_z at c.lower_half.ensures in
    IfOk-weaker c.lower_half.result _ (λ v. Ready c.args.system.now.columns v.items (c.args.next + 1) (c.args.left - 1)) (λ v h. subst (λ w. Ready c.args.system.now.columns w (c.args.next + 1) (c.args.left - 1)) (sym h) ((low_ready c.args.system.now.columns c.args.bounds.now c.args.next c.args.left c.args.j c.args.at c.requires.ready c.requires.free c.requires.low_in c.requires.high_in c.requires.half).1)) e

pub returns-clause-count : goal.returns-clause-count
returns-clause-count c =
    let f : FitsSigned w64 c.args.at = c.ranges.at in
    let e = simp to_z-of_z at c.lower_half.ensures in
    IfOk-weaker c.lower_half.result _ (λ v. size v.items + size (raised c.args.bounds.now c.args.j c.args.at c.args.next) ≡ size c.args.bounds.now) (λ v h. subst (λ w. size w + size (raised c.args.bounds.now c.args.j c.args.at c.args.next) ≡ size c.args.bounds.now) (sym h) (halves_points c.args.bounds.now c.args.j c.args.at c.args.next c.args.next c.requires.free.there c.requires.low_in c.requires.high_in)) e
