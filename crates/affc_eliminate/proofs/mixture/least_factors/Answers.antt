use Rattle.std.proofs.Common.{arith}
use Rattle.std.proofs.lemmas.Nat.Gcd.{IsGcd-swap}
use Rattle.affc_farkas.proofs.Weights.{gcd_not_zero, factors_are, factor_positive}
use Rattle.affc_eliminate.proofs.mixture.least_factors.Goals as goal

pub nonzero_div-result : goal.nonzero_div-result
nonzero_div-result c = omega (arith, gcd_not_zero c.args.a c.args.b c.gcd-divisor.result c.requires.first c.gcd-divisor.ensures)

pub nonzero_div-result-2 : goal.nonzero_div-result-2
nonzero_div-result-2 c = omega (arith, gcd_not_zero c.args.a c.args.b c.gcd-divisor.result c.requires.first c.gcd-divisor.ensures)

pub returns-clause-factors : goal.returns-clause-factors
returns-clause-factors c = factors_are c.args.a c.args.b c.gcd-divisor.result c.requires.first c.gcd-divisor.ensures

pub returns-clause-s_positive : goal.returns-clause-s_positive
returns-clause-s_positive c = factor_positive c.args.a c.args.b c.gcd-divisor.result c.requires.first c.requires.second c.gcd-divisor.ensures

pub returns-clause-t_positive : goal.returns-clause-t_positive
returns-clause-t_positive c =
    factor_positive c.args.b c.args.a c.gcd-divisor.result c.requires.second c.requires.first (IsGcd-swap c.args.a c.args.b c.gcd-divisor.result c.gcd-divisor.ensures)
