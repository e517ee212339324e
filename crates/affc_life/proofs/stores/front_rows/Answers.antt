use Rattle.std.proofs.Common.{◌+◌, ◌-◌, ◌≤◌, refl, length, sym, subst}
use Rattle.std.specs.List.{All}
use Rattle.affc_quast.specs.SeenLeaves.{leaf_seen}
use Rattle.affc_life.proofs.SeatedLemmas.{params_few, writer_few, params_first, domain_narrow, leaf_narrow, own_wide, front_made}
use Rattle.affc_life.proofs.stores.front_rows.Goals as goal

pub params_in-params-requires : goal.params_in-params-requires
params_in-params-requires c = params_few c.args.nest.now c.args.reader.now (leaf_seen c.args.leaf.now) c.args.writer.now c.requires

pub columns_in-columns-requires-clause-leaf : goal.columns_in-columns-requires-clause-leaf
columns_in-columns-requires-clause-leaf c = c.requires.few

pub columns_in-columns-requires-clause-writer : goal.columns_in-columns-requires-clause-writer
columns_in-columns-requires-clause-writer c = writer_few c.args.nest.now c.args.reader.now (leaf_seen c.args.leaf.now) c.args.writer.now c.requires

pub overflow_sub-between : goal.overflow_sub-between
overflow_sub-between c = subst (λ k. k ≤ c.args.leaf.now.columns) (sym c.params_in-params.ensures) (params_first c.args.nest.now c.args.reader.now (leaf_seen c.args.leaf.now) c.args.writer.now c.requires)

pub add_padded-requires : goal.add_padded-requires
add_padded-requires c =
    subst (λ k. All (λ f. length f.coefs ≤ k) c.rows.result.now) (sym c.columns_in-columns.ensures) (domain_narrow c.args.nest.now c.args.reader.now (leaf_seen c.args.leaf.now) c.args.writer.now c.requires c.rows.result.now c.rows.ensures.fit)

pub add_padded-requires-2 : goal.add_padded-requires-2
add_padded-requires-2 c =
    subst (λ k. All (λ f. length f.coefs ≤ k) c.as_slice.result.now) (sym c.columns_in-columns.ensures)
    (subst (All (λ f. length f.coefs ≤ c.args.leaf.now.columns + length c.args.writer.now.loops)) (sym c.as_slice.ensures) (leaf_narrow c.args.nest.now c.args.reader.now (leaf_seen c.args.leaf.now) c.args.writer.now c.requires))

pub add_spread-requires : goal.add_spread-requires
add_spread-requires c =
    subst (λ k. All (λ f. k ≤ length f.coefs) c.own_rows-own.result.now) (sym c.params_in-params.ensures)
    (own_wide c.args.nest.now c.requires.nested c.args.writer.now c.requires.writes c.own_rows-own.result.now c.own_rows-own.ensures.rows)

pub returns : goal.returns
returns c =
    front_made c.args.nest.now c.args.reader.now (leaf_seen c.args.leaf.now) c.args.writer.now c.columns_in-columns.result c.params_in-params.result (c.args.leaf.now.columns - c.params_in-params.result) c.rows.result.now c.as_slice.result.now c.own_rows-own.result.now
    c.add_padded.new.out.items c.add_padded-2.new.out.items c.add_spread.new.out.items c.new-rows.result.items c.columns_in-columns.ensures c.params_in-params.ensures refl c.rows.ensures.rows c.as_slice.ensures c.own_rows-own.ensures.rows
    c.new-rows.ensures.items c.in_ok-add_padded.ensures c.in_ok-add_padded-2.ensures c.in_ok-add_spread.ensures
