use Rattle.affc_quast.specs.SeenLeaves.{leaf_seen}
use Rattle.affc_questions.proofs.LeafLemmas.{own_narrow, all_in}
use Rattle.affc_questions.proofs.leaf.add_input.Goals as goal

pub add_path-requires-clause-domain : goal.add_path-requires-clause-domain
add_path-requires-clause-domain c = own_narrow c.args.reading.now.nest.now c.args.reading.now.reader.now c.args.reading.now.load.now (leaf_seen c.args.reading.now.leaf.now) c.requires

pub add_all_earlier-requires-clause-entries : goal.add_all_earlier-requires-clause-entries
add_all_earlier-requires-clause-entries c = all_in c.args.reading.now.nest.now c.as_slice.result.now c.as_slice.ensures
