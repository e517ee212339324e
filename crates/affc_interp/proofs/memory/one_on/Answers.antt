use Rattle.affc_interp.proofs.Reached.{too_many}
use Rattle.affc_interp.proofs.memory.one_on.Goals as goal

pub returns-in-empty : goal.returns-in-empty
returns-in-empty c = λ xs. too_many c.args.size c.args.place c.args.x xs c.args.extents.now c.in-empty.len_below
