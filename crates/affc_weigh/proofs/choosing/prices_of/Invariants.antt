use Rattle.std.proofs.Common.{◌≡◌, map}
use Rattle.std.specs.Prelude.{take}
use Rattle.affc_weigh.specs.Choices.{price_of}
use Rattle.affc_weigh.proofs.choosing.prices_of.Given as goal

abbrev pub invariant-loop-one : goal.invariant-loop-one
invariant-loop-one l = l.prices ≡ map price_of (take l.one-index l.found)
