-- By computation.
use Rattle.std.proofs.Common.{refl}
use Rattle.std.specs.Fmt.{digits}
use denote.Hole.Carrier.{hidden}
use Rattle.affc_ast.specs.declared.tree.Ix.TheBlock.{shape-the_row-Ix-0, hidden-the_row-Ix-0}
use Rattle.affc_ast.specs.declared.tree.Stmt.TheBlock.{shape-the_row-Stmt-0, hidden-the_row-Stmt-0}
use Rattle.affc_schedtext.specs.Verdict.{computing}
use Rattle.affc_schedtext.proofs.examples.folds_and_unknown_lines.Goals as goal

pub returns-clause-a_fold : goal.returns-clause-a_fold
unfolding computing digits shape-the_row-Ix-0 hidden-the_row-Ix-0 shape-the_row-Stmt-0 hidden-the_row-Stmt-0 hidden
returns-clause-a_fold c = refl

pub returns-clause-a_fold_wants_inverse_forms : goal.returns-clause-a_fold_wants_inverse_forms
unfolding computing digits shape-the_row-Ix-0 hidden-the_row-Ix-0 shape-the_row-Stmt-0 hidden-the_row-Stmt-0 hidden
returns-clause-a_fold_wants_inverse_forms c = refl

pub returns-clause-no_parameters_in_folds : goal.returns-clause-no_parameters_in_folds
unfolding computing digits shape-the_row-Ix-0 hidden-the_row-Ix-0 shape-the_row-Stmt-0 hidden-the_row-Stmt-0 hidden
returns-clause-no_parameters_in_folds c = refl

pub returns-clause-subscripts_before_the_sign : goal.returns-clause-subscripts_before_the_sign
unfolding computing digits shape-the_row-Ix-0 hidden-the_row-Ix-0 shape-the_row-Stmt-0 hidden-the_row-Stmt-0 hidden
returns-clause-subscripts_before_the_sign c = refl

pub returns-clause-as_many_inverse_forms_as_dimensions : goal.returns-clause-as_many_inverse_forms_as_dimensions
unfolding computing digits shape-the_row-Ix-0 hidden-the_row-Ix-0 shape-the_row-Stmt-0 hidden-the_row-Stmt-0 hidden
returns-clause-as_many_inverse_forms_as_dimensions c = refl

pub returns-clause-no_statements_behind_a_fold : goal.returns-clause-no_statements_behind_a_fold
unfolding computing digits shape-the_row-Ix-0 hidden-the_row-Ix-0 shape-the_row-Stmt-0 hidden-the_row-Stmt-0 hidden
returns-clause-no_statements_behind_a_fold c = refl

pub returns-clause-a_line_called_fold : goal.returns-clause-a_line_called_fold
unfolding computing digits shape-the_row-Ix-0 hidden-the_row-Ix-0 shape-the_row-Stmt-0 hidden-the_row-Stmt-0 hidden
returns-clause-a_line_called_fold c = refl

pub returns-clause-no_line_called_fold_behind_folds : goal.returns-clause-no_line_called_fold_behind_folds
unfolding computing digits shape-the_row-Ix-0 hidden-the_row-Ix-0 shape-the_row-Stmt-0 hidden-the_row-Stmt-0 hidden
returns-clause-no_line_called_fold_behind_folds c = refl

pub returns-clause-any_names_of_an_unknown_statement : goal.returns-clause-any_names_of_an_unknown_statement
unfolding computing digits shape-the_row-Ix-0 hidden-the_row-Ix-0 shape-the_row-Stmt-0 hidden-the_row-Stmt-0 hidden
returns-clause-any_names_of_an_unknown_statement c = refl

pub returns-clause-an_unknown_statement_may_have_no_inverse : goal.returns-clause-an_unknown_statement_may_have_no_inverse
unfolding computing digits shape-the_row-Ix-0 hidden-the_row-Ix-0 shape-the_row-Stmt-0 hidden-the_row-Stmt-0 hidden
returns-clause-an_unknown_statement_may_have_no_inverse c = refl

pub returns-clause-any_names_of_an_unknown_array : goal.returns-clause-any_names_of_an_unknown_array
unfolding computing digits shape-the_row-Ix-0 hidden-the_row-Ix-0 shape-the_row-Stmt-0 hidden-the_row-Stmt-0 hidden
returns-clause-any_names_of_an_unknown_array c = refl

pub returns-clause-an_unknown_array_wants_inverse_forms : goal.returns-clause-an_unknown_array_wants_inverse_forms
unfolding computing digits shape-the_row-Ix-0 hidden-the_row-Ix-0 shape-the_row-Stmt-0 hidden-the_row-Stmt-0 hidden
returns-clause-an_unknown_array_wants_inverse_forms c = refl

pub returns-clause-names_of_an_array_parameter : goal.returns-clause-names_of_an_array_parameter
unfolding computing digits shape-the_row-Ix-0 hidden-the_row-Ix-0 shape-the_row-Stmt-0 hidden-the_row-Stmt-0 hidden
returns-clause-names_of_an_array_parameter c = refl

pub returns-clause-no_folds_of_parameters : goal.returns-clause-no_folds_of_parameters
unfolding computing digits shape-the_row-Ix-0 hidden-the_row-Ix-0 shape-the_row-Stmt-0 hidden-the_row-Stmt-0 hidden
returns-clause-no_folds_of_parameters c = refl

pub returns-clause-any_names_of_a_scalar : goal.returns-clause-any_names_of_a_scalar
unfolding computing digits shape-the_row-Ix-0 hidden-the_row-Ix-0 shape-the_row-Stmt-0 hidden-the_row-Stmt-0 hidden
returns-clause-any_names_of_a_scalar c = refl
