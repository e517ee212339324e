-- Sums that stop at the greatest number of 128 bits.
use Rattle.std.proofs.Common.{◌≡◌, ℕ, ◌+◌, ◌-◌, ◌^◌, arith}
use Rattle.std.specs.Prelude.{min}
use Rattle.affc_weigh.specs.Costs.{stopped}

stops : (most a b : ℕ) → min (a + min b most) most ≡ min (a + b) most
stops most a b = omega arith

pub stopped_sum : (a b : ℕ) → stopped (a + stopped b) ≡ stopped (a + b)
stopped_sum a b = stops (2 ^ 128 - 1) a b
