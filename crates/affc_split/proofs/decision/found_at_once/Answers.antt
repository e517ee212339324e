use Rattle.std.proofs.Common.{subst, length}
use Rattle.std.specs.Prelude.{IfSome}
use Rattle.affc_leaf.specs.Parts.{IsLeast}
use Rattle.affc_split.proofs.Answers.{least_of_box}
use Rattle.affc_split.proofs.decision.found_at_once.Goals as goal

pub returns-in-Some-least-clause-point : goal.returns-in-Some-least-clause-point
returns-in-Some-least-clause-point c =
    let system = c.args.system.now in
    let bs = c.args.bounds.now in
    least_of_box system (length system.rows) c.args.ranges.now bs c.in-Some-least.point.items c.requires.bounds
    (subst (λ o. IfSome o (λ v. IsLeast system bs v.items)) c.in-Some-least.is c.in_ok-sight.ensures.least)
