-- By computation.
use Rattle.std.proofs.Common.{refl, lit≤, arith}
use Rattle.affc_grammar.specs.Verdict.{computing}
use Rattle.affc_grammar.proofs.Counts.{past_tokens}
use Rattle.affc_grammar.proofs.examples.shape.Goals as goal

pub returns-clause-run : goal.returns-clause-run
unfolding computing
returns-clause-run c = refl

pub returns-clause-depth : goal.returns-clause-depth
unfolding computing
returns-clause-depth c = refl

pub returns-clause-any_mark_closes : goal.returns-clause-any_mark_closes
unfolding computing
returns-clause-any_mark_closes c = refl

pub returns-clause-items : goal.returns-clause-items
unfolding computing
returns-clause-items c = refl

pub returns-clause-runs_begin_anew : goal.returns-clause-runs_begin_anew
unfolding computing
returns-clause-runs_begin_anew c = refl

pub returns-clause-run_of_a_text : goal.returns-clause-run_of_a_text
unfolding computing
returns-clause-run_of_a_text c = refl

pub returns-clause-depth_of_a_text : goal.returns-clause-depth_of_a_text
unfolding computing
returns-clause-depth_of_a_text c = refl

pub returns-clause-items_of_a_text : goal.returns-clause-items_of_a_text
unfolding computing
returns-clause-items_of_a_text c = refl

pub returns-clause-separators : goal.returns-clause-separators
unfolding computing
returns-clause-separators c = refl

pub returns-clause-first_of_the_table : goal.returns-clause-first_of_the_table
unfolding computing
returns-clause-first_of_the_table c = refl

pub returns-clause-tokens : goal.returns-clause-tokens
returns-clause-tokens c ss e = past_tokens 65536 0 ss (omega (arith, e)) (lit≤ tt)

pub returns-clause-tokens_with_the_prelude : goal.returns-clause-tokens_with_the_prelude
returns-clause-tokens_with_the_prelude c ss e = past_tokens 16777216 0 ss (omega (arith, e)) (lit≤ tt)
