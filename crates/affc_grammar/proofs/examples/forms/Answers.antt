-- By computation.
use Rattle.std.proofs.Common.{refl}
use Rattle.affc_grammar.specs.Verdict.{computing}
use Rattle.affc_grammar.proofs.examples.forms.Goals as goal

pub returns-clause-product_of_names : goal.returns-clause-product_of_names
unfolding computing
returns-clause-product_of_names c = refl

pub returns-clause-product_of_a_name_that_cancels : goal.returns-clause-product_of_a_name_that_cancels
unfolding computing
returns-clause-product_of_a_name_that_cancels c = refl

pub returns-clause-names_come_before_products : goal.returns-clause-names_come_before_products
unfolding computing
returns-clause-names_come_before_products c = refl

pub returns-clause-products_come_before_limits : goal.returns-clause-products_come_before_limits
unfolding computing
returns-clause-products_come_before_limits c = refl

pub returns-clause-literal : goal.returns-clause-literal
unfolding computing
returns-clause-literal c = refl

pub returns-clause-large_literal : goal.returns-clause-large_literal
unfolding computing
returns-clause-large_literal c = refl

pub returns-clause-literal_in_parentheses : goal.returns-clause-literal_in_parentheses
unfolding computing
returns-clause-literal_in_parentheses c = refl

pub returns-clause-negated_literal : goal.returns-clause-negated_literal
unfolding computing
returns-clause-negated_literal c = refl

pub returns-clause-literal_in_a_sum : goal.returns-clause-literal_in_a_sum
unfolding computing
returns-clause-literal_in_a_sum c = refl

pub returns-clause-coefficient : goal.returns-clause-coefficient
unfolding computing
returns-clause-coefficient c = refl

pub returns-clause-large_coefficient : goal.returns-clause-large_coefficient
unfolding computing
returns-clause-large_coefficient c = refl

pub returns-clause-large_part : goal.returns-clause-large_part
unfolding computing
returns-clause-large_part c = refl

pub returns-clause-literals_with_the_prelude : goal.returns-clause-literals_with_the_prelude
unfolding computing
returns-clause-literals_with_the_prelude c = refl

pub returns-clause-product_in_a_call : goal.returns-clause-product_in_a_call
unfolding computing
returns-clause-product_in_a_call c = refl

pub returns-clause-greatest_divisor : goal.returns-clause-greatest_divisor
unfolding computing
returns-clause-greatest_divisor c = refl

pub returns-clause-large_divisor : goal.returns-clause-large_divisor
unfolding computing
returns-clause-large_divisor c = refl
