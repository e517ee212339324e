use Rattle.affc_interp.proofs.memory.Memory.declare.Goals as goal

pub returns : goal.returns
returns c = (c.in_ok-ns.ns.items, c.in_ok-ns.ensures.0, c.in_ok-add.ensures.extents, c.in_ok-add.ensures.store)
