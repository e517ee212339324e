use Rattle.std.proofs.Common.{arith}
use Rattle.affc_cprint.specs.Seen.{seen}
use Rattle.affc_cprint.proofs.Chains.{tests_more, tests_end}
use Rattle.affc_cprint.proofs.stmt.tests.Goals as goal

pub returns-after-loop-c : goal.returns-after-loop-c
returns-after-loop-c c =
    tests_end (seen c.args.names.now) c.args.tests.now c.c-item.result c.loop-c.c-index c.in-len1-up.len_at_least c.c-item.is (omega arith) c.in_ok-test-in-len1-up.ensures c.loop-c.invariant

pub loop-c-preserved : goal.loop-c-preserved
loop-c-preserved c =
    tests_more (seen c.args.names.now) _ c.c-item-in-loop-c.result c.loop-c.c-index (omega arith) c.c-item-in-loop-c.is c.loop-c.invariant c.in_ok-push-in-len1-up.ensures c.in_ok-test-in-len1-up-2.ensures
