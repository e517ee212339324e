use Rattle.std.proofs.Common.{length}
use Rattle.affc_dataflow.proofs.tested.+are_narrow.Given as goal

abbrev pub decreases-are_narrow : goal.decreases-are_narrow
decreases-are_narrow l = length l.coefs.now
