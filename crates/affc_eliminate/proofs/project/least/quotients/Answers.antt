use Rattle.std.proofs.Common.{get_or, pos, sym, subst, rules}
use Prim.Native.Nat.{◌∣◌}
use Rattle.std.specs.Prelude.{unsigned_abs, FitsSigned}
use Rattle.std.specs.Int.{w128}
use Rattle.std.proofs.lemmas.Int.{to_z-of_z}
use Rattle.affc_eliminate.proofs.project.least.quotients.Goals as goal

pub quotient-requires-clause-divides : goal.quotient-requires-clause-divides
quotient-requires-clause-divides c =
    let x = get_or c.args.numbers.now c.loop-number.number-index (pos 0) in
    let fits : FitsSigned w128 x = search rules in
    subst (λ z. c.args.divisor ∣ unsigned_abs z) (sym (to_z-of_z w128 x fits)) (c.requires.divides c.loop-number.number-index (pos 0) c.loop-number-test.true)
