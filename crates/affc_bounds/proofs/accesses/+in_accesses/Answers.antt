use Rattle.affc_domain.proofs.Lists.{first_and_rest}
use Rattle.affc_bounds.proofs.AccessLemmas.{accesses_first}
use Rattle.affc_bounds.proofs.accesses.+in_accesses.Goals as goal

pub returns-in_ok-others-in-len1-up-clause-first : goal.returns-in_ok-others-in-len1-up-clause-first
returns-in_ok-others-in-len1-up-clause-first t c =
    accesses_first c.args.look.now.nest.now c.args.look.now.entry.now c.args.first c.args.accesses.now _ c.access-item.result c.as_slice-subs.result.now c.extents_of-extents.result.now
    c.in_ok-here-in-len1-up.here c.in_ok-others-in-len1-up.others c.nearer.result
    (first_and_rest c.args.accesses.now c.access-item.result c.in-len1-up.len_at_least c.access-item.is) c.as_slice-subs.ensures c.extents_of-extents.ensures.value
    c.in_ok-here-in-len1-up.ensures.first c.in_ok-others-in-len1-up.ensures.first c.nearer.ensures.first
