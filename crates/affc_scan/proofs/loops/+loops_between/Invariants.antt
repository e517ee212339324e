use Rattle.std.proofs.Common.{length}
use Rattle.affc_scan.proofs.loops.+loops_between.Given as goal

abbrev pub decreases-loops_between : goal.decreases-loops_between
decreases-loops_between l = length l.ends
