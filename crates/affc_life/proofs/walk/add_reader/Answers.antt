use Rattle.std.proofs.Common.{map, flat_map, drop, ap, ◌∙◌}
use Rattle.std.proofs.lemmas.Result.{on_ok_weaker}
use Rattle.affc_order.proofs.CodeLemmas.{is_nest}
use Rattle.affc_quast.specs.Seen.{seen}
use Rattle.affc_quast.specs.Sources.{loads_before}
use Rattle.affc_life.specs.Drafts.{drafted, walk_of}
use Rattle.affc_life.proofs.SeatedLemmas.{its_place}
use Rattle.affc_life.proofs.WalkLemmas.{own_loads, reader_made}
use Rattle.affc_life.proofs.walk.add_reader.Goals as goal

pub add_loads-requires-clause-reads : goal.add_loads-requires-clause-reads
add_loads-requires-clause-reads c = record { there = c.requires.reader; alive = c.if-not-reader.false }

pub add_loads-requires-clause-loads : goal.add_loads-requires-clause-loads
add_loads-requires-clause-loads c =
    own_loads c.args.asked.now.nest.now (map seen c.args.trees.now) (map seen c.trees_from-own.result.now) c.args.reader.now (c.trees_from-own.ensures ∙ ap (λ es. drop (loads_before es c.args.reader.now.part) (map seen c.args.trees.now)) c.as_slice.ensures) c.requires.limits
    (its_place c.args.asked.now.nest.now (is_nest c.args.asked.now.nest.now c.args.asked.now.after.now c.requires.scheduled.after) c.args.reader.now (record { there = c.requires.reader; alive = c.if-not-reader.false }))

pub returns : goal.returns
returns c =
    on_ok_weaker c.add_loads.result
    (reader_made c.args.asked.now.nest.now (map seen c.args.trees.now) (map seen c.trees_from-own.result.now) c.args.reader.now (c.trees_from-own.ensures ∙ ap (λ es. drop (loads_before es c.args.reader.now.part) (map seen c.args.trees.now)) c.as_slice.ensures) (walk_of c.args.asked.now)
    c.as_slice-accesses.result.now (flat_map drafted c.args.out.now.items) (flat_map drafted c.add_loads.new.out.items) c.if-not-reader.false c.as_slice-accesses.ensures)
    c.add_loads.ensures
