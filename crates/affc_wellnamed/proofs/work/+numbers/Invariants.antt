use Rattle.std.proofs.Common.{◌≡◌, map, drop}
use Rattle.affc_ast.specs.Fits.{all_true}
use Rattle.affc_wellnamed.specs.Work.{stmt_fits}
use Rattle.affc_wellnamed.proofs.work.+numbers.Given as goal

abbrev pub invariant-stmts_fit-loop-s : goal.invariant-stmts_fit-loop-s
invariant-stmts_fit-loop-s l = all_true (map stmt_fits (drop l.s-index l.body)) ≡ all_true (map stmt_fits l.body)
