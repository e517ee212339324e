use Rattle.std.proofs.Common.{length}
use Rattle.affc_rewrite.proofs.calls.+local_calls.Given as goal

abbrev pub decreases-local_calls : goal.decreases-local_calls
decreases-local_calls l = length l.locals.now
