use Rattle.std.proofs.Common.{◌≡◌, drop}
use Rattle.std.specs.List.{list_all}
use Rattle.affc_wellnamed.specs.Work.{has_few}
use Rattle.affc_wellnamed.proofs.work.temps_fit.Given as goal

abbrev pub invariant-loop-temp : goal.invariant-loop-temp
invariant-loop-temp l = list_all has_few (drop l.temp-index l.temps) ≡ list_all has_few l.temps
