use Rattle.std.proofs.Common.{◌≡◌, map, drop}
use Rattle.affc_wellnamed.specs.Known.{cond_seen, each_known}
use Rattle.affc_wellnamed.specs.Sights.{known_in}
use Rattle.affc_wellnamed.proofs.known.+conditions.Given as goal

abbrev pub invariant-each_known-loop-c : goal.invariant-each_known-loop-c
invariant-each_known-loop-c l = each_known l.all (map (cond_seen (known_in l.prelude l.sight)) (drop l.c-index l.cs)) ≡ each_known l.all (map (cond_seen (known_in l.prelude l.sight)) l.cs)
