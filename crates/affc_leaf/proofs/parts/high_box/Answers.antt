use Rattle.std.proofs.Common.{◌+◌, ◌-◌, sym, subst}
use Rattle.std.specs.Prelude.{FitsSigned}
use Rattle.std.specs.Int.{w64}
use Rattle.std.proofs.lemmas.Int.{to_z-of_z}
use Rattle.std.proofs.lemmas.Result.{IfOk-weaker}
use Rattle.affc_leaf.specs.Parts.{Ready}
use Rattle.affc_leaf.proofs.Steps.{high_ready}
use Rattle.affc_leaf.proofs.parts.high_box.Goals as goal

pub returns-clause-ready : goal.returns-clause-ready
returns-clause-ready c =
    let f : FitsSigned w64 c.args.at = c.ranges.at in
    let e = simp to_z-of_z at c.upper_half.ensures in
    IfOk-weaker c.upper_half.result _ (λ v. Ready c.args.system.now.columns v.items (c.args.next + 1) (c.args.left - 1)) (λ v h. subst (λ w. Ready c.args.system.now.columns w (c.args.next + 1) (c.args.left - 1)) (sym h) (high_ready c.args.system.now.columns c.args.bounds.now c.args.next c.args.left c.args.j c.args.at c.requires.ready c.requires.free c.requires.low_in c.requires.high_in c.requires.half)) e
