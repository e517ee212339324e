use Rattle.affc_domain.proofs.Lists.{first_and_rest}
use Rattle.affc_bounds.proofs.AccessLemmas.{dimensions_first}
use Rattle.affc_bounds.proofs.accesses.+in_dimensions.Goals as goal

pub returns-in_ok-others-in-len1-up-extents-clause-first : goal.returns-in_ok-others-in-len1-up-extents-clause-first
returns-in_ok-others-in-len1-up-extents-clause-first t c =
    dimensions_first c.args.look.now.nest.now c.args.look.now.entry.now c.args.access c.args.array c.args.subs.now c.args.extents.now _ _ c.sub-item.result c.extent-item.result
    c.in_ok-here-in-len1-up-extents.here c.in_ok-others-in-len1-up-extents.others c.nearer.result
    (first_and_rest c.args.subs.now c.sub-item.result c.in-len1-up.len_at_least c.sub-item.is) (first_and_rest c.args.extents.now c.extent-item.result c.in-len1-up-extents.len_at_least c.extent-item.is)
    c.in_ok-here-in-len1-up-extents.ensures.first c.in_ok-others-in-len1-up-extents.ensures.first c.nearer.ensures.first
