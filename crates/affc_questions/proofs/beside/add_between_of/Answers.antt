use Rattle.affc_questions.proofs.ListedLemmas.{store_here}
use Rattle.affc_questions.proofs.beside.add_between_of.Goals as goal

pub add_between-requires-clause-writer : goal.add_between-requires-clause-writer
add_between-requires-clause-writer c = record {
  writes = record { there = c.requires.entry; alive = c.in-Some.ensures.living };
  stores = store_here c.args.reading.now.load.now.array.0 c.args.entry.now c.in-Some.store.now c.in-Some.ensures.some;
}
