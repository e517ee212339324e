use Rattle.std.proofs.Common.{length}
use Rattle.affc_dataflow.proofs.tested.+keep_limits.Given as goal

abbrev pub decreases-keep_limits : goal.decreases-keep_limits
decreases-keep_limits l = length l.forms.now
