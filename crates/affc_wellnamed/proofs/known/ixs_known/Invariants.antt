use Rattle.std.proofs.Common.{◌≡◌, drop}
use Rattle.affc_wellnamed.specs.Known.{ixs_known}
use Rattle.affc_wellnamed.specs.Sights.{known_in}
use Rattle.affc_wellnamed.proofs.known.ixs_known.Given as goal

abbrev pub invariant-loop-e : goal.invariant-loop-e
invariant-loop-e l = ixs_known (known_in l.prelude l.sight) (drop l.e-index l.es) ≡ ixs_known (known_in l.prelude l.sight) l.es
