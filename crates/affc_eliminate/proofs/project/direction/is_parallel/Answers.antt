use Rattle.std.proofs.Common.{rules, ◌∙◌, sym, ap, below_more, pos, get_or}
use Rattle.std.specs.Prelude.{FitsSigned}
use Rattle.std.specs.Int.{w128}
use Rattle.std.proofs.lemmas.Int.{to_z-of_z}
use mir.Val.{to_z}
use Rattle.affc_eliminate.proofs.project.direction.is_parallel.Goals as goal

pub loop-j-preserved : goal.loop-j-preserved
loop-j-preserved c =
    let fm : FitsSigned w128 c.args.m = c.ranges.m in
    let fn : FitsSigned w128 c.args.n = c.ranges.n in
    let fa : FitsSigned w128 (get_or c.args.first.now c.loop-j.j (pos 0)) = search rules in
    let fb : FitsSigned w128 (get_or c.args.second.now c.loop-j.j (pos 0)) = search rules in
    let e = c.in-Some-Some.ensures in
    let e' = c.in-Some-Some.ensures' in
    let fl : FitsSigned w128 c.in-Some-Some.left = search rules in
    let fr : FitsSigned w128 c.in-Some-Some.right = search rules in
    let same = sym (to_z-of_z w128 c.in-Some-Some.left fl) ∙ ap (to_z w128) c.if-left-right.false ∙ to_z-of_z w128 c.in-Some-Some.right fr in
    let inv = simp to_z-of_z at c.loop-j.invariant in
    simp to_z-of_z (below_more _ _ inv (sym (simp to_z-of_z at e) ∙ same ∙ simp to_z-of_z at e'))
