use Rattle.affc_floor.specs.Lives.{AreSoFar}
use Rattle.affc_floor.proofs.found.lives.Given as goal

abbrev pub invariant-loop-at : goal.invariant-loop-at
invariant-loop-at l = AreSoFar l.slots l.at l.stores l.covered.items l.found.items
