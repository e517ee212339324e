use Rattle.std.proofs.Common.{◌≤◌, length, sym, subst}
use Rattle.std.specs.List.{All}
use Rattle.affc_quast.specs.SeenLeaves.{leaf_seen}
use Rattle.affc_life.proofs.SeatedLemmas.{params_few, params_first, store_wide_enough, stored_made}
use Rattle.affc_life.proofs.stores.stored.Goals as goal

pub params_in-params-requires : goal.params_in-params-requires
params_in-params-requires c = params_few c.args.nest.now c.args.reader.now (leaf_seen c.args.leaf.now) c.args.writer.now c.requires.seated

pub overflow_sub-between : goal.overflow_sub-between
overflow_sub-between c = subst (λ k. k ≤ c.args.leaf.now.columns) (sym c.params_in-params.ensures) (params_first c.args.nest.now c.args.reader.now (leaf_seen c.args.leaf.now) c.args.writer.now c.requires.seated)

pub add_spread-requires : goal.add_spread-requires
add_spread-requires c =
    subst (λ k. All (λ f. k ≤ length f.coefs) c.as_slice.result.now) (sym c.params_in-params.ensures)
    (subst (All (λ f. length c.args.nest.now.params ≤ length f.coefs)) (sym c.as_slice.ensures) (store_wide_enough c.args.nest.now c.args.reader.now (leaf_seen c.args.leaf.now) c.args.writer.now c.requires.seated c.args.store.now c.requires.store))

pub returns : goal.returns
returns c =
    stored_made c.args.nest.now c.args.reader.now (leaf_seen c.args.leaf.now) c.args.writer.now c.params_in-params.result c.as_slice.result.now c.args.store.now.subs c.new-subs.result.items c.add_spread.new.out.items c.params_in-params.ensures c.new-subs.ensures.items c.as_slice.ensures
    c.in_ok-add_spread.ensures
