use Rattle.affc_bounds.proofs.AliveLemmas.{params_reach}
use Rattle.affc_bounds.proofs.points.has_context.Goals as goal

pub least_point-requires-clause-reach : goal.least_point-requires-clause-reach
least_point-requires-clause-reach c = params_reach c.args.nest.now c.requires.nest
