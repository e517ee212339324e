use Rattle.std.proofs.Common.{◌≡◌, ◌+◌, drop}
use Rattle.affc_wellnamed.specs.Known.{number_count}
use Rattle.affc_wellnamed.proofs.known.number_count.Given as goal

abbrev pub invariant-loop-param : goal.invariant-loop-param
invariant-loop-param l = l.count + number_count (drop l.param-index l.params) ≡ number_count l.params
