use Rattle.affc_bounds.proofs.AccessLemmas.{sides_first}
use Rattle.affc_bounds.proofs.accesses.in_dimension.Goals as goal

pub returns-clause-first : goal.returns-clause-first
returns-clause-first c =
    sides_first c.args.look.now.nest.now c.args.look.now.entry.now c.args.access c.args.array c.args.sub.now c.args.extent.now c.in_ok-low.low c.in_ok-high.high c.in_ok-below.below c.in_ok-past.past c.nearer.result
    c.in_ok-low.ensures c.in_ok-high.ensures c.in_ok-below.ensures.first c.in_ok-past.ensures.first c.nearer.ensures.first
