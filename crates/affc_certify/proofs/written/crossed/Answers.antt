use Rattle.std.proofs.Common.{◌<◌, ◌≤◌, length, arith, sym, subst}
use Rattle.std.proofs.lemmas.Option.{slice_get_within}
use Rattle.affc_certify.proofs.written.crossed.Goals as goal

pub overflow_cast-result : goal.overflow_cast-result
overflow_cast-result c =
    let within = slice_get_within c.args.system.now.rows c.in_ok-before.before c.in_ok-before.ensures.other c.in_ok-before.ensures.there in
    let few = subst (λ rs. length rs ≤ 1024) c.rows-rows.ensures.rows c.rows-rows.ensures.few in
    omega (arith, within, few)

pub invariant_of-result : goal.invariant_of-result
invariant_of-result c = record {
  rising = subst (λ rs. c.in_ok-before.before < length rs) (sym c.rows-rows.ensures.rows) (slice_get_within c.args.system.now.rows c.in_ok-before.before c.in_ok-before.ensures.other c.in_ok-before.ensures.there);
}
