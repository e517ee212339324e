use Rattle.std.proofs.Common.{length}
use Rattle.affc_interp.specs.Scans.{SpacedTo}
use Rattle.affc_interp.proofs.line.all_spaced.Given as goal

abbrev pub invariant-loop-value : goal.invariant-loop-value
invariant-loop-value l = SpacedTo l.fn.text l.values.items l.rest

abbrev pub decreases-loop-value : goal.decreases-loop-value
decreases-loop-value l = length l.rest
