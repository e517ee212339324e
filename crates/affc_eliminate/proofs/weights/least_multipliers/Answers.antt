use Rattle.std.proofs.Common.{◌∙◌, sym, ap, subst}
use Rattle.affc_eliminate.specs.Merges.{AreTimes, AreMerged, IsDivisor}
use Rattle.affc_eliminate.proofs.Merges.{divided_by, divided_times, divisor_fits, least_are, multipliers_from, quotient_wide, some_weight}
use Rattle.affc_eliminate.proofs.weights.least_multipliers.Goals as goal

pub divided-requires : goal.divided-requires
divided-requires c =
    let sums = c.in-Ok.sums.items in
    let d = c.common_divisor-divisor.result in
    let m = subst (λ xs. AreMerged c.args.s xs c.args.t c.args.second.now sums) c.pairs.ensures.pairs (subst (λ ys. AreMerged c.args.s c.pairs.result.now c.args.t ys sums) c.pairs-2.ensures.pairs c.in-Ok.ensures.ok) in
    let h = subst (IsDivisor d) c.as_slice.ensures.value c.common_divisor-divisor.ensures in
    let w = some_weight c.args.first.now c.pairs.ensures.multipliers c.requires.some in
    (divisor_fits d c.args.s c.args.first.now c.args.t c.args.second.now sums m h.divides c.requires.s_positive w.0 w.1).0

pub returns-in-Err-divided-clause-wide : goal.returns-in-Err-divided-clause-wide
returns-in-Err-divided-clause-wide c = λ e.
    let sums = c.in-Ok.sums.items in
    let d = c.common_divisor-divisor.result in
    let m = subst (λ xs. AreMerged c.args.s xs c.args.t c.args.second.now sums) c.pairs.ensures.pairs (subst (λ ys. AreMerged c.args.s c.pairs.result.now c.args.t ys sums) c.pairs-2.ensures.pairs c.in-Ok.ensures.ok) in
    let h = subst (IsDivisor d) c.as_slice.ensures.value c.common_divisor-divisor.ensures in
    let w = some_weight c.args.first.now c.pairs.ensures.multipliers c.requires.some in
    let fits = divisor_fits d c.args.s c.args.first.now c.args.t c.args.second.now sums m h.divides c.requires.s_positive w.0 w.1 in
    let q = c.in-Err-divided.ensures.wide e in
    quotient_wide d c.args.s c.args.first.now c.args.t c.args.second.now sums c.as_slice-2.result.now q.0 m h fits.0 c.as_slice-2.ensures.value q.1 q.2

pub unreachable-requires : goal.unreachable-requires
unreachable-requires c =
    let sums = c.in-Ok.sums.items in
    let d = c.common_divisor-divisor.result in
    let m = subst (λ xs. AreMerged c.args.s xs c.args.t c.args.second.now sums) c.pairs.ensures.pairs (subst (λ ys. AreMerged c.args.s c.pairs.result.now c.args.t ys sums) c.pairs-2.ensures.pairs c.in-Ok.ensures.ok) in
    let h = subst (IsDivisor d) c.as_slice.ensures.value c.common_divisor-divisor.ensures in
    let w = some_weight c.args.first.now c.pairs.ensures.multipliers c.requires.some in
    let fits = divisor_fits d c.args.s c.args.first.now c.args.t c.args.second.now sums m h.divides c.requires.s_positive w.0 w.1 in
    let e = c.in-Ok-divided.ensures.ok ∙ ap (divided_by d) c.as_slice-2.ensures.value in
    c.in_default.ensures.none (multipliers_from c.in-Ok-divided.pairs.items (subst AreTimes (sym e) (divided_times d sums fits.0 h.divides m.times)) c.in-Ok-divided.ensures.small)

pub returns-clause-ok : goal.returns-clause-ok
returns-clause-ok c =
    let sums = c.in-Ok.sums.items in
    let d = c.common_divisor-divisor.result in
    let m = subst (λ xs. AreMerged c.args.s xs c.args.t c.args.second.now sums) c.pairs.ensures.pairs (subst (λ ys. AreMerged c.args.s c.pairs.result.now c.args.t ys sums) c.pairs-2.ensures.pairs c.in-Ok.ensures.ok) in
    let h = subst (IsDivisor d) c.as_slice.ensures.value c.common_divisor-divisor.ensures in
    let w = some_weight c.args.first.now c.pairs.ensures.multipliers c.requires.some in
    let fits = divisor_fits d c.args.s c.args.first.now c.args.t c.args.second.now sums m h.divides c.requires.s_positive w.0 w.1 in
    let e = c.in-Some.ensures.pairs ∙ c.in-Ok-divided.ensures.ok ∙ ap (divided_by d) c.as_slice-2.ensures.value in
    least_are c.args.s c.args.first.now c.args.t c.args.second.now sums (record { divisor = d; from = c.in-Some.from }) m h fits.0 fits.1 e
