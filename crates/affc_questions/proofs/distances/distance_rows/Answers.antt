use Rattle.affc_questions.proofs.DistanceLemmas.{row_elements, turned_elements}
use Rattle.affc_questions.proofs.distances.distance_rows.Goals as goal

pub add_distances-requires-clause-straight : goal.add_distances-requires-clause-straight
add_distances-requires-clause-straight c = row_elements c.args.rows.now c.args.row.now c.args.modulus.now c.args.pair.now c.requires

pub add_distances-requires-clause-turned : goal.add_distances-requires-clause-turned
add_distances-requires-clause-turned c = turned_elements c.args.rows.now c.args.row.now c.args.modulus.now c.args.pair.now c.requires
