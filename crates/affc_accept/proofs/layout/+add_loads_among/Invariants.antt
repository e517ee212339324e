use Rattle.std.proofs.Common.{length}
use Rattle.affc_accept.proofs.layout.+add_loads_among.Given as goal

abbrev pub decreases-add_loads_among : goal.decreases-add_loads_among
decreases-add_loads_among l = length l.accesses.now
