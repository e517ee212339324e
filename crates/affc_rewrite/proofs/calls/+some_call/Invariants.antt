use Rattle.std.proofs.Common.{length}
use Rattle.affc_rewrite.proofs.calls.+some_call.Given as goal

abbrev pub decreases-some_call : goal.decreases-some_call
decreases-some_call l = length l.es.now
