use Rattle.affc_accept.proofs.Listed.{nothing_among}
use Rattle.affc_accept.proofs.layout.+add_loads_among.Goals as goal

pub returns-in-len1 : goal.returns-in-len1
returns-in-len1 t c = nothing_among c.args.nest.now c.args.entry.now c.args.accesses.now c.args.out.now c.in-len1.len_below
