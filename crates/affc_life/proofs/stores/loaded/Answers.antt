use Rattle.std.proofs.Common.{◌+◌, ◌≤◌, length, sym, subst}
use Rattle.std.specs.List.{All}
use Rattle.affc_quast.specs.SeenLeaves.{leaf_seen}
use Rattle.affc_life.proofs.SeatedLemmas.{writer_few, load_narrow, loaded_made}
use Rattle.affc_life.proofs.stores.loaded.Goals as goal

pub columns_in-columns-requires-clause-leaf : goal.columns_in-columns-requires-clause-leaf
columns_in-columns-requires-clause-leaf c = c.requires.seated.few

pub columns_in-columns-requires-clause-writer : goal.columns_in-columns-requires-clause-writer
columns_in-columns-requires-clause-writer c = writer_few c.args.nest.now c.args.reader.now (leaf_seen c.args.leaf.now) c.args.writer.now c.requires.seated

pub add_padded-requires : goal.add_padded-requires
add_padded-requires c =
    subst (λ k. All (λ f. length f.coefs ≤ k) c.as_slice.result.now) (sym c.columns_in-columns.ensures)
    (subst (All (λ f. length f.coefs ≤ c.args.leaf.now.columns + length c.args.writer.now.loops)) (sym c.as_slice.ensures) (load_narrow c.args.nest.now c.args.reader.now (leaf_seen c.args.leaf.now) c.args.writer.now c.requires.seated c.args.load.now c.requires.load))

pub returns : goal.returns
returns c =
    loaded_made c.args.nest.now c.args.reader.now (leaf_seen c.args.leaf.now) c.args.writer.now c.columns_in-columns.result c.as_slice.result.now c.args.load.now.subs c.new-subs.result.items c.add_padded.new.out.items c.columns_in-columns.ensures c.new-subs.ensures.items c.as_slice.ensures
    c.in_ok-add_padded.ensures
