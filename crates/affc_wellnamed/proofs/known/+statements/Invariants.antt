use Rattle.std.proofs.Common.{◌≡◌, drop}
use Rattle.affc_wellnamed.specs.Known.{stmts_known}
use Rattle.affc_wellnamed.specs.Sights.{known_in}
use Rattle.affc_wellnamed.proofs.known.+statements.Given as goal

abbrev pub invariant-stmts_known-loop-s : goal.invariant-stmts_known-loop-s
invariant-stmts_known-loop-s l = stmts_known (known_in l.prelude l.sight) (drop l.s-index l.body) ≡ stmts_known (known_in l.prelude l.sight) l.body
