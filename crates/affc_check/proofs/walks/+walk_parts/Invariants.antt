use Rattle.std.proofs.Common.{length}
use Rattle.affc_check.proofs.walks.+walk_parts.Given as goal

abbrev pub decreases-walk_parts : goal.decreases-walk_parts
decreases-walk_parts l = length l.parts.now
