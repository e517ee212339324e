-- None of the choices that were passed is the array's.
use Rattle.std.specs.Prelude.{◌≡◌, drop}
use Rattle.affc_weigh.specs.Choices.{choice_of}
use Rattle.affc_driver.proofs.folding.cost_of.Given as goal

abbrev pub invariant-loop-of : goal.invariant-loop-of
invariant-loop-of l = choice_of (drop l.of-index l.choices) l.array.0 ≡ choice_of l.choices l.array.0
