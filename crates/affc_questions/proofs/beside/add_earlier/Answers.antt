use Rattle.affc_nest.proofs.QuestionProofs.{few_numbered}
use Rattle.affc_questions.proofs.beside.add_earlier.Goals as goal

pub columns_beside-columns-requires-clause-leaf : goal.columns_beside-columns-requires-clause-leaf
columns_beside-columns-requires-clause-leaf c = c.requires.reading.few

pub columns_beside-columns-requires-clause-writer : goal.columns_beside-columns-requires-clause-writer
columns_beside-columns-requires-clause-writer c = few_numbered c.args.reading.now.nest.now c.args.writer.now.entry.now c.requires.reading.nested c.requires.writer.writes.there
