use Rattle.std.proofs.Common.{◌≤◌, ◌^◌, ℤ, to_z, of_z, sym, subst, ◌∙◌}
use Rattle.std.specs.Prelude.{FitsSigned, unsigned_abs}
use Rattle.std.specs.Int.{w128}
use Rattle.std.proofs.lemmas.Int.{to_z-of_z}
use Rattle.affc_plan.proofs.OperandLaws.{mixture_fits}
use Rattle.affc_plan.proofs.operands.mixed.Goals as goal

pub mixture-requires-clause-columns : goal.mixture-requires-clause-columns
mixture-requires-clause-columns c = c.requires.columns.0 ∙ sym c.requires.columns.1

pub mixture-requires-clause-fits : goal.mixture-requires-clause-fits
mixture-requires-clause-fits c =
    let f : FitsSigned w128 c.args.s = c.ranges.s in
    let g : FitsSigned w128 c.args.t = c.ranges.t in
    mixture_fits (to_z w128 (of_z w128 c.args.s)) c.args.a.now (to_z w128 (of_z w128 c.args.t)) c.args.b.now
    (subst (λ (z : ℤ). unsigned_abs z ≤ 2 ^ 30) (sym (to_z-of_z w128 c.args.s f)) c.requires.factors.0) (subst (λ (z : ℤ). unsigned_abs z ≤ 2 ^ 30) (sym (to_z-of_z w128 c.args.t g)) c.requires.factors.1) c.requires.slight.0 c.requires.slight.1
