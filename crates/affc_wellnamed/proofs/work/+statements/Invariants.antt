use Rattle.std.proofs.Common.{◌≡◌, drop}
use Rattle.affc_wellnamed.specs.Work.{stmts_behind}
use Rattle.affc_wellnamed.proofs.work.+statements.Given as goal

abbrev pub invariant-stmts_behind-loop-s : goal.invariant-stmts_behind-loop-s
invariant-stmts_behind-loop-s l = stmts_behind l.all (drop l.s-index l.body) ≡ stmts_behind l.initial.all l.body
