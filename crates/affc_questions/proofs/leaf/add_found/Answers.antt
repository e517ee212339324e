use Rattle.std.proofs.Common.{◌≡◌, Some, flat_map, subst}
use Rattle.affc_quast.specs.SeenLeaves.{leaf_seen}
use Rattle.affc_life.specs.Drafts.{instance_named}
use Rattle.affc_flow.specs.Asked.{writers_of}
use Rattle.affc_questions.specs.Listed.{first_posed}
use Rattle.affc_questions.proofs.LeafLemmas.{own_narrow, found}
use Rattle.affc_questions.proofs.leaf.add_found.Goals as goal

pub add_path-requires-clause-domain : goal.add_path-requires-clause-domain
add_path-requires-clause-domain c = own_narrow c.args.reading.now.nest.now c.args.reading.now.reader.now c.args.reading.now.load.now (leaf_seen c.args.reading.now.leaf.now) c.requires.reading

pub add_named-requires-clause-writer : goal.add_named-requires-clause-writer
add_named-requires-clause-writer c =
    (found c.args.reading.now.nest.now c.args.reading.now.load.now.array.0 c.args.reading.now.leaf.now.columns (instance_named c.args.named.now) (c.in-Some.writer.entry.now, c.in-Some.writer.store.now) c.requires.named
    (subst (λ es. first_posed (instance_named c.args.named.now) (flat_map (writers_of c.args.reading.now.load.now.array.0) es) ≡ Some (c.in-Some.writer.entry.now, c.in-Some.writer.store.now)) c.as_slice-entries.ensures c.in-Some.ensures.some)).writer

pub add_named-requires-clause-named : goal.add_named-requires-clause-named
add_named-requires-clause-named c =
    (found c.args.reading.now.nest.now c.args.reading.now.load.now.array.0 c.args.reading.now.leaf.now.columns (instance_named c.args.named.now) (c.in-Some.writer.entry.now, c.in-Some.writer.store.now) c.requires.named
    (subst (λ es. first_posed (instance_named c.args.named.now) (flat_map (writers_of c.args.reading.now.load.now.array.0) es) ≡ Some (c.in-Some.writer.entry.now, c.in-Some.writer.store.now)) c.as_slice-entries.ensures c.in-Some.ensures.some)).instance
