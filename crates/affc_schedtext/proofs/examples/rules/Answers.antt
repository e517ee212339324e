-- By computation.
use Rattle.std.proofs.Common.{refl}
use Rattle.std.specs.Fmt.{digits}
use denote.Hole.Carrier.{hidden}
use Rattle.affc_ast.specs.declared.tree.Ix.TheBlock.{shape-the_row-Ix-0, hidden-the_row-Ix-0}
use Rattle.affc_ast.specs.declared.tree.Stmt.TheBlock.{shape-the_row-Stmt-0, hidden-the_row-Stmt-0}
use Rattle.affc_schedtext.specs.Verdict.{computing}
use Rattle.affc_schedtext.proofs.examples.rules.Goals as goal

pub returns-clause-a_statement_is_missing : goal.returns-clause-a_statement_is_missing
unfolding computing digits shape-the_row-Ix-0 hidden-the_row-Ix-0 shape-the_row-Stmt-0 hidden-the_row-Stmt-0 hidden
returns-clause-a_statement_is_missing c = refl

pub returns-clause-a_statement_stands_twice : goal.returns-clause-a_statement_stands_twice
unfolding computing digits shape-the_row-Ix-0 hidden-the_row-Ix-0 shape-the_row-Stmt-0 hidden-the_row-Stmt-0 hidden
returns-clause-a_statement_stands_twice c = refl

pub returns-clause-no_leading_zeros : goal.returns-clause-no_leading_zeros
unfolding computing digits shape-the_row-Ix-0 hidden-the_row-Ix-0 shape-the_row-Stmt-0 hidden-the_row-Stmt-0 hidden
returns-clause-no_leading_zeros c = refl

pub returns-clause-statements_by_their_number : goal.returns-clause-statements_by_their_number
unfolding computing digits shape-the_row-Ix-0 hidden-the_row-Ix-0 shape-the_row-Stmt-0 hidden-the_row-Stmt-0 hidden
returns-clause-statements_by_their_number c = refl

pub returns-clause-another_number_of_components : goal.returns-clause-another_number_of_components
unfolding computing digits shape-the_row-Ix-0 hidden-the_row-Ix-0 shape-the_row-Stmt-0 hidden-the_row-Stmt-0 hidden
returns-clause-another_number_of_components c = refl

pub returns-clause-statements_before_lengths : goal.returns-clause-statements_before_lengths
unfolding computing digits shape-the_row-Ix-0 hidden-the_row-Ix-0 shape-the_row-Stmt-0 hidden-the_row-Stmt-0 hidden
returns-clause-statements_before_lengths c = refl

pub returns-clause-lengths_before_folds : goal.returns-clause-lengths_before_folds
unfolding computing digits shape-the_row-Ix-0 hidden-the_row-Ix-0 shape-the_row-Stmt-0 hidden-the_row-Stmt-0 hidden
returns-clause-lengths_before_folds c = refl

pub returns-clause-folds_before_limits : goal.returns-clause-folds_before_limits
unfolding computing digits shape-the_row-Ix-0 hidden-the_row-Ix-0 shape-the_row-Stmt-0 hidden-the_row-Stmt-0 hidden
returns-clause-folds_before_limits c = refl

pub returns-clause-a_fold_stands_twice : goal.returns-clause-a_fold_stands_twice
unfolding computing digits shape-the_row-Ix-0 hidden-the_row-Ix-0 shape-the_row-Stmt-0 hidden-the_row-Stmt-0 hidden
returns-clause-a_fold_stands_twice c = refl

pub returns-clause-as_many_rows_as_dimensions : goal.returns-clause-as_many_rows_as_dimensions
unfolding computing digits shape-the_row-Ix-0 hidden-the_row-Ix-0 shape-the_row-Stmt-0 hidden-the_row-Stmt-0 hidden
returns-clause-as_many_rows_as_dimensions c = refl

pub returns-clause-twelve_components : goal.returns-clause-twelve_components
unfolding computing digits shape-the_row-Ix-0 hidden-the_row-Ix-0 shape-the_row-Stmt-0 hidden-the_row-Stmt-0 hidden
returns-clause-twelve_components c = refl

pub returns-clause-thirteen_components : goal.returns-clause-thirteen_components
unfolding computing digits shape-the_row-Ix-0 hidden-the_row-Ix-0 shape-the_row-Stmt-0 hidden-the_row-Stmt-0 hidden
returns-clause-thirteen_components c = refl

pub returns-clause-no_component : goal.returns-clause-no_component
unfolding computing digits shape-the_row-Ix-0 hidden-the_row-Ix-0 shape-the_row-Stmt-0 hidden-the_row-Stmt-0 hidden
returns-clause-no_component c = refl

pub returns-clause-constants_up_to_2_to_the_30 : goal.returns-clause-constants_up_to_2_to_the_30
unfolding computing digits shape-the_row-Ix-0 hidden-the_row-Ix-0 shape-the_row-Stmt-0 hidden-the_row-Stmt-0 hidden
returns-clause-constants_up_to_2_to_the_30 c = refl

pub returns-clause-constants_of_2_to_the_30 : goal.returns-clause-constants_of_2_to_the_30
unfolding computing digits shape-the_row-Ix-0 hidden-the_row-Ix-0 shape-the_row-Stmt-0 hidden-the_row-Stmt-0 hidden
returns-clause-constants_of_2_to_the_30 c = refl

pub returns-clause-a_literal_that_passes : goal.returns-clause-a_literal_that_passes
unfolding computing digits shape-the_row-Ix-0 hidden-the_row-Ix-0 shape-the_row-Stmt-0 hidden-the_row-Stmt-0 hidden
returns-clause-a_literal_that_passes c = refl

pub returns-clause-a_coefficient_that_passes : goal.returns-clause-a_coefficient_that_passes
unfolding computing digits shape-the_row-Ix-0 hidden-the_row-Ix-0 shape-the_row-Stmt-0 hidden-the_row-Stmt-0 hidden
returns-clause-a_coefficient_that_passes c = refl

pub returns-clause-coefficients_of_256 : goal.returns-clause-coefficients_of_256
unfolding computing digits shape-the_row-Ix-0 hidden-the_row-Ix-0 shape-the_row-Stmt-0 hidden-the_row-Stmt-0 hidden
returns-clause-coefficients_of_256 c = refl

pub returns-clause-limits_of_inverse_forms : goal.returns-clause-limits_of_inverse_forms
unfolding computing digits shape-the_row-Ix-0 hidden-the_row-Ix-0 shape-the_row-Stmt-0 hidden-the_row-Stmt-0 hidden
returns-clause-limits_of_inverse_forms c = refl

pub returns-clause-limits_of_folds : goal.returns-clause-limits_of_folds
unfolding computing digits shape-the_row-Ix-0 hidden-the_row-Ix-0 shape-the_row-Stmt-0 hidden-the_row-Stmt-0 hidden
returns-clause-limits_of_folds c = refl
