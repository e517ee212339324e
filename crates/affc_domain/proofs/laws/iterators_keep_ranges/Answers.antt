use Rattle.affc_domain.proofs.RangeLemmas.{iterators_keep_ranges}
use Rattle.affc_domain.proofs.laws.iterators_keep_ranges.Goals as goal

pub returns : goal.returns
returns c = record { law = iterators_keep_ranges }
