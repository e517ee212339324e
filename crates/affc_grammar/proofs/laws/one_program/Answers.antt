-- The lemmas.
use Rattle.affc_grammar.specs.Limits.{limits_of, wide_limits}
use Rattle.affc_grammar.proofs.Texts.{one_tree}
use Rattle.affc_grammar.proofs.laws.one_program.Goals as goal

pub returns-clause-reads : goal.returns-clause-reads
returns-clause-reads c = one_tree limits_of

pub returns-clause-wide : goal.returns-clause-wide
returns-clause-wide c = one_tree (λ _. wide_limits)
