use Rattle.affc_grammar.specs.Limits.{limits_of, wide_limits}
use Rattle.affc_grammar.proofs.Bare.{reads_plain}
use Rattle.affc_grammar.proofs.laws.no_locals_without_the_prelude.Goals as goal

pub returns-clause-plain : goal.returns-clause-plain
returns-clause-plain c = reads_plain limits_of

pub returns-clause-wide : goal.returns-clause-wide
returns-clause-wide c = reads_plain (λ _. wide_limits)
