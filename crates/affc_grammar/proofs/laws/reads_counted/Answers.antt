use Rattle.affc_grammar.proofs.Counts.{reads_counted, reads_wide_counted}
use Rattle.affc_grammar.proofs.laws.reads_counted.Goals as goal

pub returns-clause-plain : goal.returns-clause-plain
returns-clause-plain c = reads_counted

pub returns-clause-wide : goal.returns-clause-wide
returns-clause-wide c = reads_wide_counted
