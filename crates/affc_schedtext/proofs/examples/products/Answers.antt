-- By computation.
use Rattle.std.proofs.Common.{refl}
use denote.Hole.Carrier.{hidden}
use Rattle.affc_ast.specs.declared.tree.Ix.TheBlock.{shape-the_row-Ix-0, hidden-the_row-Ix-0}
use Rattle.affc_ast.specs.declared.tree.Stmt.TheBlock.{shape-the_row-Stmt-0, hidden-the_row-Stmt-0}
use Rattle.affc_schedtext.specs.Verdict.{computing}
use Rattle.affc_schedtext.proofs.examples.products.Goals as goal

pub returns-clause-of_two_names : goal.returns-clause-of_two_names
unfolding computing shape-the_row-Ix-0 hidden-the_row-Ix-0 shape-the_row-Stmt-0 hidden-the_row-Stmt-0 hidden
returns-clause-of_two_names c = refl

pub returns-clause-by_a_number : goal.returns-clause-by_a_number
unfolding computing shape-the_row-Ix-0 hidden-the_row-Ix-0 shape-the_row-Stmt-0 hidden-the_row-Stmt-0 hidden
returns-clause-by_a_number c = refl

pub returns-clause-names_that_cancel : goal.returns-clause-names_that_cancel
unfolding computing shape-the_row-Ix-0 hidden-the_row-Ix-0 shape-the_row-Stmt-0 hidden-the_row-Stmt-0 hidden
returns-clause-names_that_cancel c = refl

pub returns-clause-behind_a_number : goal.returns-clause-behind_a_number
unfolding computing shape-the_row-Ix-0 hidden-the_row-Ix-0 shape-the_row-Stmt-0 hidden-the_row-Stmt-0 hidden
returns-clause-behind_a_number c = refl

pub returns-clause-of_another_term : goal.returns-clause-of_another_term
unfolding computing shape-the_row-Ix-0 hidden-the_row-Ix-0 shape-the_row-Stmt-0 hidden-the_row-Stmt-0 hidden
returns-clause-of_another_term c = refl

pub returns-clause-sides_that_are_not_complete : goal.returns-clause-sides_that_are_not_complete
unfolding computing shape-the_row-Ix-0 hidden-the_row-Ix-0 shape-the_row-Stmt-0 hidden-the_row-Stmt-0 hidden
returns-clause-sides_that_are_not_complete c = refl

pub returns-clause-before_a_later_fault : goal.returns-clause-before_a_later_fault
unfolding computing shape-the_row-Ix-0 hidden-the_row-Ix-0 shape-the_row-Stmt-0 hidden-the_row-Stmt-0 hidden
returns-clause-before_a_later_fault c = refl

pub returns-clause-before_an_unknown_name : goal.returns-clause-before_an_unknown_name
unfolding computing shape-the_row-Ix-0 hidden-the_row-Ix-0 shape-the_row-Stmt-0 hidden-the_row-Stmt-0 hidden
returns-clause-before_an_unknown_name c = refl

pub returns-clause-the_outer_one_first : goal.returns-clause-the_outer_one_first
unfolding computing shape-the_row-Ix-0 hidden-the_row-Ix-0 shape-the_row-Stmt-0 hidden-the_row-Stmt-0 hidden
returns-clause-the_outer_one_first c = refl

pub returns-clause-the_inner_one_alone : goal.returns-clause-the_inner_one_alone
unfolding computing shape-the_row-Ix-0 hidden-the_row-Ix-0 shape-the_row-Stmt-0 hidden-the_row-Stmt-0 hidden
returns-clause-the_inner_one_alone c = refl

pub returns-clause-in_an_unknown_line : goal.returns-clause-in_an_unknown_line
unfolding computing shape-the_row-Ix-0 hidden-the_row-Ix-0 shape-the_row-Stmt-0 hidden-the_row-Stmt-0 hidden
returns-clause-in_an_unknown_line c = refl
