use Rattle.std.proofs.Common.{◌≡◌, drop, map}
use Rattle.std.specs.List.{list_any}
use Rattle.affc_ast.specs.Recursion.{by_stmt}
use Rattle.affc_rewrite.specs.Rewrite.{stmt_call_step}
use Rattle.affc_rewrite.proofs.calls.+walk.Given as goal

abbrev pub invariant-calls-loop-s : goal.invariant-calls-loop-s
invariant-calls-loop-s l = list_any (λ b. b) (map (by_stmt stmt_call_step) (drop l.s-index l.body)) ≡ list_any (λ b. b) (map (by_stmt stmt_call_step) l.body)
