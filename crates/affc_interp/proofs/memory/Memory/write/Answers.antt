use Rattle.std.proofs.Common.{◌∙◌, ap, refl, set, Some, arith}
use Rattle.std.proofs.lemmas.List.{with_items_is}
use Rattle.std.specs.Vec.{with_items}
use Rattle.affc_interp.proofs.Writes.{wrote_whole, wrote_extents, wrote_store}
use Rattle.affc_interp.proofs.memory.Memory.write.Goals as goal

pub invariant_of-self : goal.invariant_of-self
invariant_of-self c =
    wrote_whole c.self.inside.buffers.items c.args.array.0 c.args.place c.args.v c.index_mut-buffer.result.now (record { extents = c.index_mut-buffer.result.now.extents; cells = with_items c.index_mut-buffer.result.now.cells c.set_cell.new.cells }) c.args.self.now
    c.self.view_is c.self.invariant c.requires c.index_mut-buffer.ensures.value refl (with_items_is c.index_mut-buffer.result.now.cells c.set_cell.new.cells (omega arith) ∙ c.set_cell.ensures ∙ ap (λ cs. set cs c.args.place (Some c.args.v)) c.deref_mut.ensures.value)

pub returns-clause-extents : goal.returns-clause-extents
returns-clause-extents c =
    wrote_extents c.self.inside.buffers.items c.args.array.0 c.args.place c.args.v c.index_mut-buffer.result.now (record { extents = c.index_mut-buffer.result.now.extents; cells = with_items c.index_mut-buffer.result.now.cells c.set_cell.new.cells }) c.args.self.now
    c.self.view_is c.self.invariant c.requires c.index_mut-buffer.ensures.value refl (with_items_is c.index_mut-buffer.result.now.cells c.set_cell.new.cells (omega arith) ∙ c.set_cell.ensures ∙ ap (λ cs. set cs c.args.place (Some c.args.v)) c.deref_mut.ensures.value)

pub returns-clause-store : goal.returns-clause-store
returns-clause-store c =
    wrote_store c.self.inside.buffers.items c.args.array.0 c.args.place c.args.v c.index_mut-buffer.result.now (record { extents = c.index_mut-buffer.result.now.extents; cells = with_items c.index_mut-buffer.result.now.cells c.set_cell.new.cells }) c.args.self.now
    c.self.view_is c.self.invariant c.requires c.index_mut-buffer.ensures.value refl (with_items_is c.index_mut-buffer.result.now.cells c.set_cell.new.cells (omega arith) ∙ c.set_cell.ensures ∙ ap (λ cs. set cs c.args.place (Some c.args.v)) c.deref_mut.ensures.value)
