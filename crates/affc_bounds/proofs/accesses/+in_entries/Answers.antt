use Rattle.affc_domain.proofs.Lists.{first_and_rest}
use Rattle.affc_bounds.proofs.AccessLemmas.{entries_first}
use Rattle.affc_bounds.proofs.accesses.+in_entries.Goals as goal

pub returns-in_ok-others-in-len1-up-clause-first : goal.returns-in_ok-others-in-len1-up-clause-first
returns-in_ok-others-in-len1-up-clause-first t c =
    entries_first c.args.nest.now c.args.entries.now _ c.entry-item.result c.in_ok-here-in-len1-up.here c.in_ok-others-in-len1-up.others c.nearer.result
    (first_and_rest c.args.entries.now c.entry-item.result c.in-len1-up.len_at_least c.entry-item.is)
    c.in_ok-here-in-len1-up.ensures.first c.in_ok-others-in-len1-up.ensures.first c.nearer.ensures.first
