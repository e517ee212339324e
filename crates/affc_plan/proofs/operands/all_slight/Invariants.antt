use Rattle.std.proofs.Common.{◌≡◌, drop}
use Rattle.affc_trace.specs.Target.{are_slight}
use Rattle.affc_plan.proofs.operands.all_slight.Given as goal

abbrev pub invariant-loop-c : goal.invariant-loop-c
invariant-loop-c l = are_slight (drop l.c-index l.coefs) ≡ are_slight l.coefs
