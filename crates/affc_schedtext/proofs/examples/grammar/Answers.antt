-- By computation.
use Rattle.std.proofs.Common.{refl}
use denote.Hole.Carrier.{hidden}
use Rattle.affc_ast.specs.declared.tree.Ix.TheBlock.{shape-the_row-Ix-0, hidden-the_row-Ix-0}
use Rattle.affc_ast.specs.declared.tree.Stmt.TheBlock.{shape-the_row-Stmt-0, hidden-the_row-Stmt-0}
use Rattle.affc_schedtext.specs.Verdict.{computing}
use Rattle.affc_schedtext.proofs.examples.grammar.Goals as goal

pub returns-clause-the_blur : goal.returns-clause-the_blur
unfolding computing shape-the_row-Ix-0 hidden-the_row-Ix-0 shape-the_row-Stmt-0 hidden-the_row-Stmt-0 hidden
returns-clause-the_blur c = refl

pub returns-clause-nothing : goal.returns-clause-nothing
unfolding computing shape-the_row-Ix-0 hidden-the_row-Ix-0 shape-the_row-Stmt-0 hidden-the_row-Stmt-0 hidden
returns-clause-nothing c = refl

pub returns-clause-the_source_alone : goal.returns-clause-the_source_alone
unfolding computing shape-the_row-Ix-0 hidden-the_row-Ix-0 shape-the_row-Stmt-0 hidden-the_row-Stmt-0 hidden
returns-clause-the_source_alone c = refl

pub returns-clause-an_end_is_wanted : goal.returns-clause-an_end_is_wanted
unfolding computing shape-the_row-Ix-0 hidden-the_row-Ix-0 shape-the_row-Stmt-0 hidden-the_row-Stmt-0 hidden
returns-clause-an_end_is_wanted c = refl

pub returns-clause-one_end : goal.returns-clause-one_end
unfolding computing shape-the_row-Ix-0 hidden-the_row-Ix-0 shape-the_row-Stmt-0 hidden-the_row-Stmt-0 hidden
returns-clause-one_end c = refl

pub returns-clause-no_statements_behind_the_source : goal.returns-clause-no_statements_behind_the_source
unfolding computing shape-the_row-Ix-0 hidden-the_row-Ix-0 shape-the_row-Stmt-0 hidden-the_row-Stmt-0 hidden
returns-clause-no_statements_behind_the_source c = refl

pub returns-clause-a_length_is_wanted : goal.returns-clause-a_length_is_wanted
unfolding computing shape-the_row-Ix-0 hidden-the_row-Ix-0 shape-the_row-Stmt-0 hidden-the_row-Stmt-0 hidden
returns-clause-a_length_is_wanted c = refl

pub returns-clause-a_form_is_wanted : goal.returns-clause-a_form_is_wanted
unfolding computing shape-the_row-Ix-0 hidden-the_row-Ix-0 shape-the_row-Stmt-0 hidden-the_row-Stmt-0 hidden
returns-clause-a_form_is_wanted c = refl

pub returns-clause-no_calls : goal.returns-clause-no_calls
unfolding computing shape-the_row-Ix-0 hidden-the_row-Ix-0 shape-the_row-Stmt-0 hidden-the_row-Stmt-0 hidden
returns-clause-no_calls c = refl

pub returns-clause-names_of_the_statement : goal.returns-clause-names_of_the_statement
unfolding computing shape-the_row-Ix-0 hidden-the_row-Ix-0 shape-the_row-Stmt-0 hidden-the_row-Stmt-0 hidden
returns-clause-names_of_the_statement c = refl

pub returns-clause-no_components_in_time_forms : goal.returns-clause-no_components_in_time_forms
unfolding computing shape-the_row-Ix-0 hidden-the_row-Ix-0 shape-the_row-Stmt-0 hidden-the_row-Stmt-0 hidden
returns-clause-no_components_in_time_forms c = refl

pub returns-clause-no_iterators_in_inverse_forms : goal.returns-clause-no_iterators_in_inverse_forms
unfolding computing shape-the_row-Ix-0 hidden-the_row-Ix-0 shape-the_row-Stmt-0 hidden-the_row-Stmt-0 hidden
returns-clause-no_iterators_in_inverse_forms c = refl

pub returns-clause-components_up_to_the_length : goal.returns-clause-components_up_to_the_length
unfolding computing shape-the_row-Ix-0 hidden-the_row-Ix-0 shape-the_row-Stmt-0 hidden-the_row-Stmt-0 hidden
returns-clause-components_up_to_the_length c = refl

pub returns-clause-the_length_is_that_of_the_time : goal.returns-clause-the_length_is_that_of_the_time
unfolding computing shape-the_row-Ix-0 hidden-the_row-Ix-0 shape-the_row-Stmt-0 hidden-the_row-Stmt-0 hidden
returns-clause-the_length_is_that_of_the_time c = refl

pub returns-clause-iterators_before_the_sign : goal.returns-clause-iterators_before_the_sign
unfolding computing shape-the_row-Ix-0 hidden-the_row-Ix-0 shape-the_row-Stmt-0 hidden-the_row-Stmt-0 hidden
returns-clause-iterators_before_the_sign c = refl

pub returns-clause-inverse_forms_are_wanted : goal.returns-clause-inverse_forms_are_wanted
unfolding computing shape-the_row-Ix-0 hidden-the_row-Ix-0 shape-the_row-Stmt-0 hidden-the_row-Stmt-0 hidden
returns-clause-inverse_forms_are_wanted c = refl

pub returns-clause-the_list_ends_early : goal.returns-clause-the_list_ends_early
unfolding computing shape-the_row-Ix-0 hidden-the_row-Ix-0 shape-the_row-Stmt-0 hidden-the_row-Stmt-0 hidden
returns-clause-the_list_ends_early c = refl

pub returns-clause-the_list_goes_on_too_long : goal.returns-clause-the_list_goes_on_too_long
unfolding computing shape-the_row-Ix-0 hidden-the_row-Ix-0 shape-the_row-Stmt-0 hidden-the_row-Stmt-0 hidden
returns-clause-the_list_goes_on_too_long c = refl

pub returns-clause-outer_to_inner : goal.returns-clause-outer_to_inner
unfolding computing shape-the_row-Ix-0 hidden-the_row-Ix-0 shape-the_row-Stmt-0 hidden-the_row-Stmt-0 hidden
returns-clause-outer_to_inner c = refl

pub returns-clause-no_inverse_without_loops : goal.returns-clause-no_inverse_without_loops
unfolding computing shape-the_row-Ix-0 hidden-the_row-Ix-0 shape-the_row-Stmt-0 hidden-the_row-Stmt-0 hidden
returns-clause-no_inverse_without_loops c = refl

pub returns-clause-statements_in_any_order : goal.returns-clause-statements_in_any_order
unfolding computing shape-the_row-Ix-0 hidden-the_row-Ix-0 shape-the_row-Stmt-0 hidden-the_row-Stmt-0 hidden
returns-clause-statements_in_any_order c = refl

pub returns-clause-a_parameter_called_as_a_component : goal.returns-clause-a_parameter_called_as_a_component
unfolding computing shape-the_row-Ix-0 hidden-the_row-Ix-0 shape-the_row-Stmt-0 hidden-the_row-Stmt-0 hidden
returns-clause-a_parameter_called_as_a_component c = refl
