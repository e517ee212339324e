-- By computation.
use Rattle.std.proofs.Common.{refl}
use Rattle.std.specs.Fmt.{digits}
use denote.Hole.Carrier.{hidden}
use Rattle.affc_ast.specs.declared.tree.Ix.TheBlock.{shape-the_row-Ix-0, hidden-the_row-Ix-0}
use Rattle.affc_ast.specs.declared.tree.Cond.TheBlock.{shape-the_row-Cond-0, hidden-the_row-Cond-0}
use Rattle.affc_ast.specs.declared.tree.Stmt.TheBlock.{shape-the_row-Stmt-0, hidden-the_row-Stmt-0}
use Rattle.affc_ast.specs.declared.tree.Val.TheBlock.{shape-the_row-Val-0, hidden-the_row-Val-0}
use Rattle.affc_grammar.specs.Verdict.{computing}
use Rattle.affc_cprint.proofs.examples.layout.Goals as goal

pub returns-clause-copy_loop : goal.returns-clause-copy_loop
unfolding computing shape-the_row-Ix-0 hidden-the_row-Ix-0 shape-the_row-Val-0 hidden-the_row-Val-0 shape-the_row-Stmt-0 hidden-the_row-Stmt-0 hidden digits
returns-clause-copy_loop c = refl

pub returns-clause-expressions : goal.returns-clause-expressions
unfolding computing shape-the_row-Ix-0 hidden-the_row-Ix-0 shape-the_row-Val-0 hidden-the_row-Val-0 shape-the_row-Cond-0 hidden-the_row-Cond-0 shape-the_row-Stmt-0 hidden-the_row-Stmt-0 hidden digits
returns-clause-expressions c = refl

pub returns-clause-blocks : goal.returns-clause-blocks
unfolding computing shape-the_row-Ix-0 hidden-the_row-Ix-0 shape-the_row-Val-0 hidden-the_row-Val-0 shape-the_row-Stmt-0 hidden-the_row-Stmt-0 hidden digits
returns-clause-blocks c = refl

pub returns-clause-parentheses : goal.returns-clause-parentheses
unfolding computing shape-the_row-Ix-0 hidden-the_row-Ix-0 shape-the_row-Val-0 hidden-the_row-Val-0 shape-the_row-Stmt-0 hidden-the_row-Stmt-0 hidden digits
returns-clause-parentheses c = refl

pub returns-clause-parentheses_again : goal.returns-clause-parentheses_again
unfolding computing shape-the_row-Ix-0 hidden-the_row-Ix-0 shape-the_row-Val-0 hidden-the_row-Val-0 shape-the_row-Stmt-0 hidden-the_row-Stmt-0 hidden digits
returns-clause-parentheses_again c = refl

pub returns-clause-context : goal.returns-clause-context
unfolding computing shape-the_row-Ix-0 hidden-the_row-Ix-0 shape-the_row-Val-0 hidden-the_row-Val-0 shape-the_row-Stmt-0 hidden-the_row-Stmt-0 hidden digits
returns-clause-context c = refl

pub returns-clause-negations : goal.returns-clause-negations
unfolding computing shape-the_row-Ix-0 hidden-the_row-Ix-0 shape-the_row-Val-0 hidden-the_row-Val-0 shape-the_row-Stmt-0 hidden-the_row-Stmt-0 hidden digits
returns-clause-negations c = refl

pub returns-clause-conditions : goal.returns-clause-conditions
unfolding computing shape-the_row-Ix-0 hidden-the_row-Ix-0 shape-the_row-Val-0 hidden-the_row-Val-0 shape-the_row-Cond-0 hidden-the_row-Cond-0 shape-the_row-Stmt-0 hidden-the_row-Stmt-0 hidden digits
returns-clause-conditions c = refl
