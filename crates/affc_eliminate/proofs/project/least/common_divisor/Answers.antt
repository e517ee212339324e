use Rattle.std.proofs.Common.{get_or, pos, ap, ◌∙◌}
use Rattle.std.specs.Prelude.{unsigned_abs, FitsSigned}
use Rattle.std.specs.Int.{w128}
use Rattle.std.proofs.Common.{rules}
use Rattle.std.proofs.lemmas.Int.{to_z-of_z}
use Rattle.affc_eliminate.proofs.project.Leasts.{divisor_start, divisor_more}
use Rattle.affc_eliminate.proofs.project.least.common_divisor.Goals as goal

pub loop-number-init : goal.loop-number-init
loop-number-init c = divisor_start c.unsigned_abs-divisor.result _ c.unsigned_abs-divisor.ensures.value

pub loop-number-preserved : goal.loop-number-preserved
loop-number-preserved c =
    let x = get_or c.args.numbers.now c.loop-number.number-index (pos 0) in
    let fits : FitsSigned w128 x = search rules in
    divisor_more c.loop-number.divisor c.gcd-divisor.result c.unsigned_abs.result c.args.numbers.now _ c.loop-number.number-index c.loop-number-test.true
    (c.unsigned_abs.ensures.value ∙ ap unsigned_abs (to_z-of_z w128 x fits)) c.gcd-divisor.ensures c.loop-number.invariant
