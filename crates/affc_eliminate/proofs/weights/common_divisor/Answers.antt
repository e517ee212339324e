use Rattle.std.proofs.Common.{get_or}
use Rattle.std.proofs.lemmas.List.{get_or_default}
use Rattle.affc_eliminate.proofs.Merges.{divisor_more}
use Rattle.affc_eliminate.proofs.weights.common_divisor.Goals as goal

pub loop-sum-preserved : goal.loop-sum-preserved
loop-sum-preserved c =
    let sums = c.args.sums.now in
    let i = c.loop-sum.sum-index in
    let p = get_or sums i (0, 0) in
    divisor_more c.loop-sum.divisor c.gcd-divisor.result sums i p c.loop-sum-test.true (get_or_default sums i (0, 0) p c.loop-sum-test.true) c.gcd-divisor.ensures c.loop-sum.invariant
