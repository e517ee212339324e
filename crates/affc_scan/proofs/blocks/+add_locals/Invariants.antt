use Rattle.std.proofs.Common.{length}
use Rattle.affc_scan.proofs.blocks.+add_locals.Given as goal

abbrev pub decreases-add_locals : goal.decreases-add_locals
decreases-add_locals l = length l.frames.now
