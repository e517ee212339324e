use Rattle.std.proofs.Common.{◌≡◌, true, ◌++◌, drop, map}
use Rattle.affc_ast.specs.Recursion.{by_stmt}
use Rattle.affc_foldloops.specs.Refolds.{refold_step, each_under}
use Rattle.affc_rewrite.specs.Sizes.{at, all_under, accesses_step}
use Rattle.affc_rewrite.proofs.statements.+walk.Given as goal

abbrev pub invariant-statements-loop-s : goal.invariant-statements-loop-s
invariant-statements-loop-s l = record {
  plain : all_under (map (by_stmt accesses_step) (drop l.s-index l.body)) l.names ≡ true;
  made : l.made ++ each_under (map (by_stmt (refold_step (at l.folding))) (drop l.s-index l.body)) l.names ≡ each_under (map (by_stmt (refold_step (at l.folding))) l.body) l.names;
}
