use Rattle.std.proofs.Common.{◌≡◌, ◌+◌, arith}
use Rattle.affc_domain.proofs.Lists.{first_and_rest}
use Rattle.affc_bounds.proofs.ExtentLemmas.{arrays_first}
use Rattle.affc_bounds.proofs.extents.+in_arrays.Goals as goal

pub returns-in_ok-others-in-len1-up-clause-first : goal.returns-in_ok-others-in-len1-up-clause-first
returns-in_ok-others-in-len1-up-clause-first t c =
    let next : c.in-Some.next ≡ c.args.first + 1 = omega (arith, c.in-Some.ensures) in
    arrays_first c.args.nest.now c.args.first c.in-Some.next c.args.arrays.now _ c.array-item.result c.as_slice.result.now c.in_ok-here-in-len1-up.here c.in_ok-others-in-len1-up.others c.nearer.result
    (first_and_rest c.args.arrays.now c.array-item.result c.in-len1-up.len_at_least c.array-item.is) c.as_slice.ensures next
    c.in_ok-here-in-len1-up.ensures.first c.in_ok-others-in-len1-up.ensures.first c.nearer.ensures.first
