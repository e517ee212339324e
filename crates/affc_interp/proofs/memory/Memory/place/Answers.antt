use Rattle.std.proofs.Common.{◌∙◌, sym, ap, subst, get_or, Ok, Some, []}
use Rattle.affc_ast.specs.Index.{index_values}
use Rattle.affc_interp.specs.Layout.{AreWhole, extents_in, size_of, place_from}
use Rattle.affc_interp.specs.Seen.{read_then}
use Rattle.affc_interp.proofs.memory.Memory.place.Goals as goal

pub size_at-requires : goal.size_at-requires
size_at-requires c = subst AreWhole (sym c.as_slice-buffers.ensures.value) c.self.invariant

pub returns : goal.returns
returns c =
    let view = ap (λ bs. extents_in bs) c.as_slice-buffers.ensures.value ∙ ap (λ h. h.extents) c.self.view_is in
    let size = c.size_at.ensures ∙ ap (λ es. size_of (get_or es c.args.array.0 [])) view in
    let extents = c.extents_at.ensures ∙ ap (λ es. get_or es c.args.array.0 []) view in
    c.place_on.ensures ∙ (λ i. read_then (index_values c.args.subs.now c.args.node c.args.names.now) (λ xs. Ok (place_from (size i) (Some 0) xs (extents i))))
