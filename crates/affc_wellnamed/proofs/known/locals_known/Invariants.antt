use Rattle.std.proofs.Common.{◌≡◌, [], take, drop}
use Rattle.affc_wellnamed.specs.Known.{locals_known}
use Rattle.affc_wellnamed.specs.Sights.{known_in}
use Rattle.affc_wellnamed.proofs.known.locals_known.Given as goal

abbrev pub invariant-loop-at : goal.invariant-loop-at
invariant-loop-at l = locals_known (known_in l.prelude l.sight) (take l.at l.locals) (drop l.at l.locals) ≡ locals_known (known_in l.prelude l.sight) [] l.locals
