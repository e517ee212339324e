use Rattle.std.proofs.Common.{◌≡◌, [], take, drop}
use Rattle.affc_wellnamed.specs.Known.{temps_known}
use Rattle.affc_wellnamed.proofs.known.temps_known.Given as goal

abbrev pub invariant-loop-at : goal.invariant-loop-at
invariant-loop-at l = temps_known l.prelude l.function l.params (take l.at l.temps) (drop l.at l.temps) ≡ temps_known l.prelude l.function l.params [] l.temps
