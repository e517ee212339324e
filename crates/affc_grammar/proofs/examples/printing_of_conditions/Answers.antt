-- By computation.
use Rattle.std.proofs.Common.{refl}
use Rattle.std.specs.Fmt.{digits}
use denote.Hole.Carrier.{hidden}
use Rattle.affc_ast.specs.declared.tree.Cond.TheBlock.{shape-the_row-Cond-0, hidden-the_row-Cond-0}
use Rattle.affc_ast.specs.declared.tree.Ix.TheBlock.{shape-the_row-Ix-0, hidden-the_row-Ix-0}
use Rattle.affc_ast.specs.declared.tree.Stmt.TheBlock.{shape-the_row-Stmt-0, hidden-the_row-Stmt-0}
use Rattle.affc_ast.specs.declared.tree.Val.TheBlock.{shape-the_row-Val-0, hidden-the_row-Val-0}
use Rattle.affc_grammar.specs.Verdict.{computing}
use Rattle.affc_grammar.proofs.examples.printing_of_conditions.Goals as goal

pub returns-clause-nearest_if : goal.returns-clause-nearest_if
unfolding computing shape-the_row-Ix-0 hidden-the_row-Ix-0 shape-the_row-Val-0 hidden-the_row-Val-0 shape-the_row-Cond-0 hidden-the_row-Cond-0 shape-the_row-Stmt-0 hidden-the_row-Stmt-0 hidden digits
returns-clause-nearest_if c = refl

pub returns-clause-nearest_if_under_a_loop : goal.returns-clause-nearest_if_under_a_loop
unfolding computing shape-the_row-Ix-0 hidden-the_row-Ix-0 shape-the_row-Val-0 hidden-the_row-Val-0 shape-the_row-Cond-0 hidden-the_row-Cond-0 shape-the_row-Stmt-0 hidden-the_row-Stmt-0 hidden digits
returns-clause-nearest_if_under_a_loop c = refl

pub returns-clause-outer_if : goal.returns-clause-outer_if
unfolding computing shape-the_row-Ix-0 hidden-the_row-Ix-0 shape-the_row-Val-0 hidden-the_row-Val-0 shape-the_row-Cond-0 hidden-the_row-Cond-0 shape-the_row-Stmt-0 hidden-the_row-Stmt-0 hidden digits
returns-clause-outer_if c = refl

pub returns-clause-both_ifs : goal.returns-clause-both_ifs
unfolding computing shape-the_row-Ix-0 hidden-the_row-Ix-0 shape-the_row-Val-0 hidden-the_row-Val-0 shape-the_row-Cond-0 hidden-the_row-Cond-0 shape-the_row-Stmt-0 hidden-the_row-Stmt-0 hidden digits
returns-clause-both_ifs c = refl

pub returns-clause-conditions : goal.returns-clause-conditions
unfolding computing shape-the_row-Ix-0 hidden-the_row-Ix-0 shape-the_row-Val-0 hidden-the_row-Val-0 shape-the_row-Cond-0 hidden-the_row-Cond-0 shape-the_row-Stmt-0 hidden-the_row-Stmt-0 hidden digits
returns-clause-conditions c = refl

pub returns-clause-all_in_any : goal.returns-clause-all_in_any
unfolding computing shape-the_row-Ix-0 hidden-the_row-Ix-0 shape-the_row-Val-0 hidden-the_row-Val-0 shape-the_row-Cond-0 hidden-the_row-Cond-0 shape-the_row-Stmt-0 hidden-the_row-Stmt-0 hidden digits
returns-clause-all_in_any c = refl

pub returns-clause-remainders : goal.returns-clause-remainders
unfolding computing shape-the_row-Ix-0 hidden-the_row-Ix-0 shape-the_row-Val-0 hidden-the_row-Val-0 shape-the_row-Cond-0 hidden-the_row-Cond-0 shape-the_row-Stmt-0 hidden-the_row-Stmt-0 hidden digits
returns-clause-remainders c = refl
