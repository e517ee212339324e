use Rattle.std.proofs.Common.{length}
use Rattle.affc_check.proofs.looks.+look_parts.Given as goal

abbrev pub decreases-look_parts : goal.decreases-look_parts
decreases-look_parts l = length l.parts.now
