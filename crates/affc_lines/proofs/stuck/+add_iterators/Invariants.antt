use Rattle.std.proofs.Common.{length}
use Rattle.affc_lines.proofs.stuck.+add_iterators.Given as goal

abbrev pub decreases-add_iterators : goal.decreases-add_iterators
decreases-add_iterators l = length l.iterators.now
