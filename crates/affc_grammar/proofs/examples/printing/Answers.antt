-- By computation.
use Rattle.std.proofs.Common.{refl, codes}
use Rattle.affc_ast.specs.Examples.{copying}
use Rattle.affc_grammar.specs.Printed.{printed}
use Rattle.std.specs.Fmt.{digits}
use denote.Hole.Carrier.{hidden}
use Rattle.affc_ast.specs.declared.tree.Cond.TheBlock.{shape-the_row-Cond-0, hidden-the_row-Cond-0}
use Rattle.affc_ast.specs.declared.tree.Ix.TheBlock.{shape-the_row-Ix-0, hidden-the_row-Ix-0}
use Rattle.affc_ast.specs.declared.tree.Stmt.TheBlock.{shape-the_row-Stmt-0, hidden-the_row-Stmt-0}
use Rattle.affc_ast.specs.declared.tree.Val.TheBlock.{shape-the_row-Val-0, hidden-the_row-Val-0}
use Rattle.std.proofs.lemmas.Bool.{false≢true}
use Rattle.affc_grammar.proofs.Named.{name_is_word}
use Rattle.affc_grammar.specs.Verdict.{computing}
use Rattle.affc_grammar.proofs.examples.printing.Goals as goal

pub returns-clause-well_named : goal.returns-clause-well_named
unfolding computing shape-the_row-Ix-0 hidden-the_row-Ix-0 shape-the_row-Val-0 hidden-the_row-Val-0 shape-the_row-Cond-0 hidden-the_row-Cond-0 shape-the_row-Stmt-0 hidden-the_row-Stmt-0 hidden digits
returns-clause-well_named c = record {
  written = printed copying;
  tokens = refl;
  its_tree = refl;
  its_products = refl;
  printed_shape = refl;
  printed_limits = refl;
}

pub returns-clause-spaced_name : goal.returns-clause-spaced_name
returns-clause-spaced_name c = λ w. false≢true (name_is_word (record copying { name = codes "f g" }) w)

pub returns-clause-copy_loop : goal.returns-clause-copy_loop
unfolding computing shape-the_row-Ix-0 hidden-the_row-Ix-0 shape-the_row-Val-0 hidden-the_row-Val-0 shape-the_row-Cond-0 hidden-the_row-Cond-0 shape-the_row-Stmt-0 hidden-the_row-Stmt-0 hidden digits
returns-clause-copy_loop c = refl

pub returns-clause-sums : goal.returns-clause-sums
unfolding computing shape-the_row-Ix-0 hidden-the_row-Ix-0 shape-the_row-Val-0 hidden-the_row-Val-0 shape-the_row-Cond-0 hidden-the_row-Cond-0 shape-the_row-Stmt-0 hidden-the_row-Stmt-0 hidden digits
returns-clause-sums c = refl

pub returns-clause-shifts : goal.returns-clause-shifts
unfolding computing shape-the_row-Ix-0 hidden-the_row-Ix-0 shape-the_row-Val-0 hidden-the_row-Val-0 shape-the_row-Cond-0 hidden-the_row-Cond-0 shape-the_row-Stmt-0 hidden-the_row-Stmt-0 hidden digits
returns-clause-shifts c = refl

pub returns-clause-shifted_sums : goal.returns-clause-shifted_sums
unfolding computing shape-the_row-Ix-0 hidden-the_row-Ix-0 shape-the_row-Val-0 hidden-the_row-Val-0 shape-the_row-Cond-0 hidden-the_row-Cond-0 shape-the_row-Stmt-0 hidden-the_row-Stmt-0 hidden digits
returns-clause-shifted_sums c = refl

pub returns-clause-complements : goal.returns-clause-complements
unfolding computing shape-the_row-Ix-0 hidden-the_row-Ix-0 shape-the_row-Val-0 hidden-the_row-Val-0 shape-the_row-Cond-0 hidden-the_row-Cond-0 shape-the_row-Stmt-0 hidden-the_row-Stmt-0 hidden digits
returns-clause-complements c = refl

pub returns-clause-negations : goal.returns-clause-negations
unfolding computing shape-the_row-Ix-0 hidden-the_row-Ix-0 shape-the_row-Val-0 hidden-the_row-Val-0 shape-the_row-Cond-0 hidden-the_row-Cond-0 shape-the_row-Stmt-0 hidden-the_row-Stmt-0 hidden digits
returns-clause-negations c = refl

pub returns-clause-products : goal.returns-clause-products
unfolding computing shape-the_row-Ix-0 hidden-the_row-Ix-0 shape-the_row-Val-0 hidden-the_row-Val-0 shape-the_row-Cond-0 hidden-the_row-Cond-0 shape-the_row-Stmt-0 hidden-the_row-Stmt-0 hidden digits
returns-clause-products c = refl

pub returns-clause-braces : goal.returns-clause-braces
unfolding computing shape-the_row-Ix-0 hidden-the_row-Ix-0 shape-the_row-Val-0 hidden-the_row-Val-0 shape-the_row-Cond-0 hidden-the_row-Cond-0 shape-the_row-Stmt-0 hidden-the_row-Stmt-0 hidden digits
returns-clause-braces c = refl

pub returns-clause-calls_under_minus : goal.returns-clause-calls_under_minus
unfolding computing shape-the_row-Ix-0 hidden-the_row-Ix-0 shape-the_row-Val-0 hidden-the_row-Val-0 shape-the_row-Cond-0 hidden-the_row-Cond-0 shape-the_row-Stmt-0 hidden-the_row-Stmt-0 hidden digits
returns-clause-calls_under_minus c = refl
