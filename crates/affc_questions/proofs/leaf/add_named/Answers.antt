use Rattle.std.proofs.Common.{[], ◌++◌, map, flat_map, ap, ap₂, ◌∙◌}
use Rattle.std.proofs.lemmas.Result.{on_ok_weaker}
use Rattle.affc_quast.specs.SeenLeaves.{leaf_seen}
use Rattle.affc_life.specs.Drafts.{instance_named}
use Rattle.affc_questions.specs.Listed.{asked, asks, own_path, astray_lists, late_lists, all_between}
use Rattle.affc_questions.proofs.ListedLemmas.{lists_made}
use Rattle.affc_questions.proofs.LeafLemmas.{own_narrow, all_in}
use Rattle.affc_questions.proofs.leaf.add_named.Goals as goal

pub own_path-requires-clause-domain : goal.own_path-requires-clause-domain
own_path-requires-clause-domain c = own_narrow c.args.reading.now.nest.now c.args.reading.now.reader.now c.args.reading.now.load.now (leaf_seen c.args.reading.now.leaf.now) c.requires.reading

pub add_all_between-requires-clause-entries : goal.add_all_between-requires-clause-entries
add_all_between-requires-clause-entries c = all_in c.args.reading.now.nest.now c.as_slice.result.now c.as_slice.ensures

pub returns : goal.returns
returns c =
    let nest = c.args.reading.now.nest.now in
    let reader = c.args.reading.now.reader.now in
    let load = c.args.reading.now.load.now in
    let leaf = leaf_seen c.args.reading.now.leaf.now in
    let a = instance_named c.args.named.now in
    let old = flat_map asked c.args.out.now.items in
    let mid = flat_map asked c.add_each.new.out.items in
    let lists = c.append.new.self.items in
    on_ok_weaker c.add_all_between.result
    (λ e. lists_made (asks leaf.columns (own_path reader leaf) []) old mid (flat_map asked c.add_all_between.new.out.items) (all_between nest reader load leaf a nest.entries)
    (astray_lists nest load leaf.columns a.iterators c.args.writer.now.entry.now c.args.writer.now.store.now) (late_lists nest reader leaf.columns a) lists
    (c.in_ok-append.ensures.items ∙ ap₂ (λ xs ys. xs ++ ys) c.in_ok-lists.ensures c.in_ok-late.ensures)
    (c.in_ok-add_each.ensures ∙ ap₂ (λ f rs. old ++ map (asks leaf.columns f rs) lists) (c.from_vec-rows.ensures ∙ c.in_ok-path.ensures) c.new.ensures)
    (e ∙ ap (λ es. mid ++ all_between nest reader load leaf a es) c.as_slice.ensures)) c.add_all_between.ensures
