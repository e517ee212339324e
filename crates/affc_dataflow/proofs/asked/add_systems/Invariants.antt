use Rattle.std.proofs.Common.{◌≡◌, ◌++◌, map}
use Rattle.affc_dataflow.specs.Guesses.{asked}
use Rattle.affc_dataflow.proofs.asked.add_systems.Given as goal

abbrev pub invariant-loop-system : goal.invariant-loop-system
invariant-loop-system l = map asked l.out.items ≡ map asked l.initial.out.items ++ map (λ s. record { system = s; ranges = l.ranges }) l.yielded
