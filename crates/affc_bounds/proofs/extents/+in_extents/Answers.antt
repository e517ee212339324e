use Rattle.affc_domain.proofs.Lists.{first_and_rest}
use Rattle.affc_bounds.proofs.ExtentLemmas.{extents_first}
use Rattle.affc_bounds.proofs.extents.+in_extents.Goals as goal

pub returns-in_ok-others-in-len1-up-clause-first : goal.returns-in_ok-others-in-len1-up-clause-first
returns-in_ok-others-in-len1-up-clause-first t c =
    extents_first c.args.nest.now c.args.array c.args.extents.now _ c.extent-item.result c.in_ok-here-in-len1-up.here c.in_ok-others-in-len1-up.others c.nearer.result
    (first_and_rest c.args.extents.now c.extent-item.result c.in-len1-up.len_at_least c.extent-item.is)
    c.in_ok-here-in-len1-up.ensures.first c.in_ok-others-in-len1-up.ensures.first c.nearer.ensures.first
