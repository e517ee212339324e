-- By computation.
use Rattle.std.proofs.Common.{refl}
use Rattle.affc_grammar.specs.Verdict.{computing}
use Rattle.affc_grammar.proofs.examples.statements.Goals as goal

pub returns-clause-blocks : goal.returns-clause-blocks
unfolding computing
returns-clause-blocks c = refl

pub returns-clause-locals_want_the_prelude : goal.returns-clause-locals_want_the_prelude
unfolding computing
returns-clause-locals_want_the_prelude c = refl

pub returns-clause-locals_of_blocks : goal.returns-clause-locals_of_blocks
unfolding computing
returns-clause-locals_of_blocks c = refl

pub returns-clause-no_locals_of_bodies : goal.returns-clause-no_locals_of_bodies
unfolding computing
returns-clause-no_locals_of_bodies c = refl

pub returns-clause-declarations : goal.returns-clause-declarations
unfolding computing
returns-clause-declarations c = refl

pub returns-clause-casts : goal.returns-clause-casts
unfolding computing
returns-clause-casts c = refl

pub returns-clause-no_cast : goal.returns-clause-no_cast
unfolding computing
returns-clause-no_cast c = refl

pub returns-clause-keywords_are_words : goal.returns-clause-keywords_are_words
unfolding computing
returns-clause-keywords_are_words c = refl

pub returns-clause-else_is_a_word : goal.returns-clause-else_is_a_word
unfolding computing
returns-clause-else_is_a_word c = refl

pub returns-clause-else_with_subscripts : goal.returns-clause-else_with_subscripts
unfolding computing
returns-clause-else_with_subscripts c = refl

pub returns-clause-else_after_no_if : goal.returns-clause-else_after_no_if
unfolding computing
returns-clause-else_after_no_if c = refl

pub returns-clause-else_has_a_body : goal.returns-clause-else_has_a_body
unfolding computing
returns-clause-else_has_a_body c = refl

pub returns-clause-one_else : goal.returns-clause-one_else
unfolding computing
returns-clause-one_else c = refl

pub returns-clause-else_ifs : goal.returns-clause-else_ifs
unfolding computing
returns-clause-else_ifs c = refl
