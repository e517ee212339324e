use Rattle.std.proofs.Common.{◌≡◌, map}
use Rattle.std.specs.Prelude.{take}
use Rattle.affc_weigh.specs.Choices.{top}
use Rattle.affc_weigh.proofs.ratings.tops.Given as goal

abbrev pub invariant-loop-modulus : goal.invariant-loop-modulus
invariant-loop-modulus l = l.tops ≡ map top (take l.modulus-index l.moduli)
