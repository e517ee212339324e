use Rattle.affc_questions.proofs.ListedLemmas.{store_here}
use Rattle.affc_questions.proofs.beside.add_earlier_of.Goals as goal

pub add_earlier-requires-clause-writer : goal.add_earlier-requires-clause-writer
add_earlier-requires-clause-writer c = record {
  writes = record { there = c.requires.entry; alive = c.in-Some.ensures.living };
  stores = store_here c.args.reading.now.load.now.array.0 c.args.entry.now c.in-Some.store.now c.in-Some.ensures.some;
}
