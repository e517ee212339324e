use Rattle.std.proofs.Common.{◌≡◌, map, drop}
use Rattle.affc_ast.specs.Fits.{all_true}
use Rattle.affc_ast.specs.Joined.{joined_tests_step}
use Rattle.affc_ast.specs.Recursion.{by_stmt}
use Rattle.affc_plain.proofs.joined.+statements.Given as goal

abbrev pub invariant-stmts_joined-loop-s : goal.invariant-stmts_joined-loop-s
invariant-stmts_joined-loop-s l = all_true (map (by_stmt joined_tests_step) (drop l.s-index l.body)) ≡ all_true (map (by_stmt joined_tests_step) l.body)
