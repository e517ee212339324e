use Rattle.std.proofs.Common.{length}
use Rattle.affc_scan.proofs.blocks.+under_frames.Given as goal

abbrev pub decreases-under_frames : goal.decreases-under_frames
decreases-under_frames l = length l.frames.now
