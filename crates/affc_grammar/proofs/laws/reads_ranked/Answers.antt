use Rattle.affc_grammar.specs.Limits.{limits_of, wide_limits}
use Rattle.affc_grammar.proofs.Counts.{reads_ranked}
use Rattle.affc_grammar.proofs.laws.reads_ranked.Goals as goal

pub returns-clause-plain : goal.returns-clause-plain
returns-clause-plain c = reads_ranked limits_of

pub returns-clause-wide : goal.returns-clause-wide
returns-clause-wide c = reads_ranked (λ _. wide_limits)
