use Rattle.std.proofs.Common.{◌≡◌, drop}
use Rattle.affc_wellnamed.specs.Known.{compares_known}
use Rattle.affc_wellnamed.specs.Sights.{known_in}
use Rattle.affc_wellnamed.proofs.known.compares_known.Given as goal

abbrev pub invariant-loop-c : goal.invariant-loop-c
invariant-loop-c l = compares_known (known_in l.prelude l.sight) (drop l.c-index l.cs) ≡ compares_known (known_in l.prelude l.sight) l.cs
