use Rattle.std.proofs.Common.{◌∙◌, sym, ap}
use Rattle.affc_interp.specs.Seen.{loaded}
use Rattle.affc_interp.proofs.Loads.{load_at}
use Rattle.affc_interp.proofs.memory.Memory.read.Goals as goal

pub returns : goal.returns
returns c = λ names here xs e.
    c.load_from.ensures here
    ∙ ap (λ bs. loaded bs c.args.array.0 c.args.place here c.args.access) c.as_slice.ensures.value
    ∙ sym (load_at c.self.inside.buffers.items c.args.self.now c.args.array xs c.args.place names here c.args.access c.self.view_is c.self.invariant e)
