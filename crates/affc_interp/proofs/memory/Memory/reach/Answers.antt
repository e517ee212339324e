use Rattle.affc_interp.proofs.Loads.{touched, touched_not}
use Rattle.affc_interp.proofs.memory.Memory.reach.Goals as goal

pub returns-in-None : goal.returns-in-None
returns-in-None c = λ names here xs e. touched_not c.self.inside.buffers.items c.args.self.now c.args.array xs c.args.place names here c.args.access c.self.view_is c.self.invariant c.in-None.is e

pub returns-in-Some : goal.returns-in-Some
returns-in-Some c = λ names here xs e. (c.in-Some.is, touched c.self.inside.buffers.items c.args.self.now c.args.array xs c.args.place c.in-Some.place names here c.args.access c.self.view_is c.self.invariant c.in-Some.is e)
