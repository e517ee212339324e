use Rattle.std.proofs.Common.{◌∙◌, ap, sym, subst}
use Rattle.affc_interp.specs.Layout.{AreWhole, size_of, given_cells, store_held}
use Rattle.affc_interp.proofs.Adds.{whole_added, store_added}
use Rattle.affc_interp.proofs.memory.Memory.add.Goals as goal

pub invariant_of-self-2 : goal.invariant_of-self-2
invariant_of-self-2 c =
    let size = c.in-Some.ensures ∙ ap size_of c.as_slice.ensures.value in
    subst AreWhole (sym c.in_ok-push.ensures.items)
    (whole_added c.self.inside.buffers.items (record { extents = c.args.extents; cells = c.in_ok-cells.cells }) c.args.values.now c.self.invariant c.requires
    (c.in_ok-cells.ensures ∙ ap (λ n. given_cells n c.args.values.now) size))

pub returns-clause-store : goal.returns-clause-store
returns-clause-store c =
    let size = c.in-Some.ensures ∙ ap size_of c.as_slice.ensures.value in
    ap store_held c.in_ok-push.ensures.items
    ∙ store_added c.self.inside.buffers.items (record { extents = c.args.extents; cells = c.in_ok-cells.cells }) c.args.values.now c.args.self.now c.self.view_is c.self.invariant
    (c.in_ok-cells.ensures ∙ ap (λ n. given_cells n c.args.values.now) size)
