use Rattle.std.proofs.Common.{◌≡◌, drop, map}
use Rattle.std.specs.List.{list_any}
use Rattle.affc_rewrite.specs.Rewrite.{cond_calls}
use Rattle.affc_rewrite.proofs.calls.+conds.Given as goal

abbrev pub invariant-some_cond_calls-loop-cond : goal.invariant-some_cond_calls-loop-cond
invariant-some_cond_calls-loop-cond l = list_any (λ b. b) (map cond_calls (drop l.cond-index l.conds)) ≡ list_any (λ b. b) (map cond_calls l.conds)
