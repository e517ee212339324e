use Rattle.std.proofs.Common.{◌+◌, length}
use Rattle.affc_dataflow.proofs.search.+search.Given as goal

abbrev pub decreases-search : goal.decreases-search
decreases-search l = l.left + length l.rest.now
