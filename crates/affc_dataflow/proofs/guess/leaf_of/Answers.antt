use Rattle.std.proofs.Common.{◌∙◌, ap, sym, length, refl}
use Rattle.std.specs.Prelude.{slice_get}
use Rattle.std.proofs.lemmas.Option.{slice_get_read}
use Rattle.affc_dataflow.proofs.GuessLemmas.{writes_here}
use Rattle.affc_dataflow.proofs.guess.leaf_of.Goals as goal

pub source_leaf-requires-clause-writes : goal.source_leaf-requires-clause-writes
source_leaf-requires-clause-writes c =
    let l = c.args.load.now in
    let h = c.in-Some.ensures.lookup in
    let k = c.args.candidate.now.part in
    let there = ap (λ s. slice_get s k) (sym c.as_slice.ensures) ∙ slice_get_read c.as_slice.result.now (length c.as_slice.result.now) k c.in-Some.writer.now refl h.3.0 h.1 in
    writes_here l.nest.now l.access.now.array.0 k c.in-Some.writer.now c.in-Some-store_for.store.now there c.in-Some-store_for.ensures.some
