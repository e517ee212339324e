use Rattle.std.proofs.Common.{◌∙◌}
use Rattle.affc_nest.proofs.QuestionProofs.{few_numbered}
use Rattle.affc_quast.specs.SeenLeaves.{leaf_seen}
use Rattle.affc_questions.proofs.LeafLemmas.{read_wide, written_wide}
use Rattle.affc_questions.proofs.beside.beside_rows.Goals as goal

pub columns_beside-columns-requires-clause-leaf : goal.columns_beside-columns-requires-clause-leaf
columns_beside-columns-requires-clause-leaf c = c.requires.reading.few

pub columns_beside-columns-requires-clause-writer : goal.columns_beside-columns-requires-clause-writer
columns_beside-columns-requires-clause-writer c = few_numbered c.args.reading.now.nest.now c.args.writer.now.entry.now c.requires.reading.nested c.requires.writer.writes.there

pub add_equals-requires-clause-firsts : goal.add_equals-requires-clause-firsts
add_equals-requires-clause-firsts c =
    read_wide c.args.reading.now.nest.now c.args.reading.now.reader.now c.args.reading.now.load.now (leaf_seen c.args.reading.now.leaf.now) c.args.writer.now.entry.now c.args.writer.now.store.now c.requires.reading c.requires.writer c.columns_beside-columns.result c.as_slice.result.now c.columns_beside-columns.ensures (c.as_slice.ensures.value ∙ c.in_ok-read.ensures)

pub add_equals-requires-clause-seconds : goal.add_equals-requires-clause-seconds
add_equals-requires-clause-seconds c =
    written_wide c.args.reading.now.nest.now c.args.reading.now.reader.now c.args.reading.now.load.now (leaf_seen c.args.reading.now.leaf.now) c.args.writer.now.entry.now c.args.writer.now.store.now c.requires.reading c.requires.writer c.columns_beside-columns.result c.as_slice-2.result.now c.columns_beside-columns.ensures (c.as_slice-2.ensures.value ∙ c.in_ok-written.ensures)
