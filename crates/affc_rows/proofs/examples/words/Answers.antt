-- Which numbers have opposites, at the edge of 128 bits.
use Rattle.std.proofs.Common.{arith, zero, suc, ◌-◌, ◌^◌, ◌<◌, [], ◌∷◌, pos, negsuc, unsigned_abs}
use Rattle.std.specs.List.{All}
use Rattle.affc_rows.proofs.examples.words.Goals as goal

-- one number that has an opposite
one_has : All (λ c. unsigned_abs c < 2 ^ 127) (negsuc (2 ^ 127 - 2) ∷ [])
one_has zero d is = omega arith
one_has (suc k) d is = omega (arith, is)

pub returns-clause-least : goal.returns-clause-least
returns-clause-least c = (
  (λ h. omega (arith, h.1)),
  (λ h. let e = h.0 0 (pos 0) (omega arith) in omega (arith, e)),
  (one_has, omega arith),
)
