use Rattle.std.proofs.Common.{◌≡◌, ◌-◌, [], replicate, map, flat_map, drop, ap, sym, ◌∙◌}
use Rattle.std.proofs.lemmas.Result.{on_ok_weaker}
use Rattle.affc_quast.specs.Seen.{seen}
use Rattle.affc_quast.specs.Sources.{loads_in, loads_before}
use Rattle.affc_life.specs.Clashes.{numbered_loads, clashes_of_entry}
use Rattle.affc_life.specs.Drafts.{clashes_of_load}
use Rattle.affc_life.proofs.SeatedLemmas.{its_place}
use Rattle.affc_life.proofs.WalkLemmas.{own_loads}
use Rattle.affc_check.specs.list.Passes.{items_by_entry}
use Rattle.affc_check.specs.list.Walks.{own_items}
use Rattle.affc_check.proofs.list.LoadLemmas.{put_same, dead_clashes, living_clashes}
use Rattle.affc_check.proofs.list.TreeLemmas.{living_entry, dead_entry}
use Rattle.affc_check.proofs.list.trees.add_reader.Goals as goal

pub returns-then-not-reader : goal.returns-then-not-reader
returns-then-not-reader c =
    let nest = c.args.nest.now in
    let trees = map seen c.args.trees.now in
    let loads : c.saturating_sub.result ≡ loads_in c.args.reader.now = c.saturating_sub.ensures ∙ ap (λ n. n - 1) c.len.ensures in
    on_ok_weaker c.add_none.result
    (put_same nest (replicate c.saturating_sub.result []) (items_by_entry nest trees c.args.reader.now) (λ walk. []) (λ walk. clashes_of_entry nest walk trees c.args.reader.now) c.args.out.now c.add_none.new.out
    (ap (λ n. replicate n []) loads ∙ dead_entry nest trees c.args.reader.now c.if-not-reader.true) (λ walk. sym (dead_clashes nest walk trees c.args.reader.now c.if-not-reader.true)))
    c.add_none.ensures

pub add_loads-requires-clause-reads : goal.add_loads-requires-clause-reads
add_loads-requires-clause-reads c = record { there = c.requires.reader; alive = c.if-not-reader.false }

pub add_loads-requires-clause-loads : goal.add_loads-requires-clause-loads
add_loads-requires-clause-loads c =
    let own = map seen c.trees_from-own.result.now in
    let trees = map seen c.args.trees.now in
    let reader = c.args.reader.now in
    let is = c.trees_from-own.ensures ∙ ap (λ es. drop (loads_before es reader.part) trees) c.as_slice.ensures in
    own_loads c.args.nest.now trees own reader is c.requires.limits (its_place c.args.nest.now c.requires.nested reader (record { there = c.requires.reader; alive = c.if-not-reader.false }))

pub returns : goal.returns
returns c =
    let nest = c.args.nest.now in
    let own = map seen c.trees_from-own.result.now in
    let trees = map seen c.args.trees.now in
    let reader = c.args.reader.now in
    let accesses = c.as_slice-accesses.result.now in
    let is = c.trees_from-own.ensures ∙ ap (λ es. drop (loads_before es reader.part) trees) c.as_slice.ensures in
    on_ok_weaker c.add_loads.result
    (put_same nest (own_items nest own reader 0 accesses) (items_by_entry nest trees reader) (λ walk. flat_map (clashes_of_load nest walk reader own) (numbered_loads 0 accesses)) (λ walk. clashes_of_entry nest walk trees reader) c.args.out.now c.add_loads.new.out
    (living_entry nest trees own reader is accesses c.as_slice-accesses.ensures c.if-not-reader.false) (λ walk. living_clashes nest trees own reader is walk accesses c.as_slice-accesses.ensures c.if-not-reader.false)) c.add_loads.ensures
