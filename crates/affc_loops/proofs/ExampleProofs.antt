-- The examples compute.
use Rattle.std.proofs.Common.{refl}
use denote.Hole.Carrier.{hidden}
use Rattle.affc_ast.specs.declared.tree.Ix.TheBlock.{shape-the_row-Ix-0, hidden-the_row-Ix-0}
use Rattle.affc_ast.specs.declared.tree.Val.TheBlock.{shape-the_row-Val-0, hidden-the_row-Val-0}
use Rattle.affc_ast.specs.declared.tree.Cond.TheBlock.{shape-the_row-Cond-0, hidden-the_row-Cond-0}
use Rattle.affc_ast.specs.declared.tree.Stmt.TheBlock.{shape-the_row-Stmt-0, hidden-the_row-Stmt-0}
use Rattle.affc_loops.specs.EndExamples.{QuotientsOfRows, EndsOfCopy, CopiesBetweenEnds, EndsOfTriangle, StepsOfTriangle, EndsOfMore}
use Rattle.affc_loops.specs.Examples.{FormsAsExpressions, TimesOfThree, LoopsOfThree, LoopsOfBranches, LoopsOfTwo, NothingToRun, TiesInOrder}

pub forms_as_expressions : FormsAsExpressions
forms_as_expressions = (refl, refl, refl, refl, refl, refl, refl, refl, refl)

pub times_of_three : TimesOfThree
unfolding shape-the_row-Ix-0 hidden-the_row-Ix-0 shape-the_row-Val-0 hidden-the_row-Val-0 shape-the_row-Stmt-0 hidden-the_row-Stmt-0 shape-the_row-Cond-0 hidden-the_row-Cond-0 hidden
times_of_three = refl

pub loops_of_three : LoopsOfThree
unfolding shape-the_row-Ix-0 hidden-the_row-Ix-0 shape-the_row-Val-0 hidden-the_row-Val-0 shape-the_row-Stmt-0 hidden-the_row-Stmt-0 shape-the_row-Cond-0 hidden-the_row-Cond-0 hidden
loops_of_three = refl

pub loops_of_branches : LoopsOfBranches
unfolding shape-the_row-Ix-0 hidden-the_row-Ix-0 shape-the_row-Val-0 hidden-the_row-Val-0 shape-the_row-Stmt-0 hidden-the_row-Stmt-0 shape-the_row-Cond-0 hidden-the_row-Cond-0 hidden
loops_of_branches = refl

pub loops_of_two : LoopsOfTwo
loops_of_two = refl

pub nothing_to_run : NothingToRun
unfolding shape-the_row-Ix-0 hidden-the_row-Ix-0 shape-the_row-Val-0 hidden-the_row-Val-0 shape-the_row-Stmt-0 hidden-the_row-Stmt-0 shape-the_row-Cond-0 hidden-the_row-Cond-0 hidden
nothing_to_run = refl

pub ties_in_order : TiesInOrder
unfolding shape-the_row-Ix-0 hidden-the_row-Ix-0 shape-the_row-Val-0 hidden-the_row-Val-0 shape-the_row-Stmt-0 hidden-the_row-Stmt-0 shape-the_row-Cond-0 hidden-the_row-Cond-0 hidden
ties_in_order = refl

pub quotients_of_rows : QuotientsOfRows
quotients_of_rows = (refl, refl, refl, refl)

pub ends_of_copy : EndsOfCopy
unfolding shape-the_row-Ix-0 hidden-the_row-Ix-0 shape-the_row-Val-0 hidden-the_row-Val-0 shape-the_row-Stmt-0 hidden-the_row-Stmt-0 shape-the_row-Cond-0 hidden-the_row-Cond-0 hidden
ends_of_copy = refl

pub copies_between_ends : CopiesBetweenEnds
unfolding shape-the_row-Ix-0 hidden-the_row-Ix-0 shape-the_row-Val-0 hidden-the_row-Val-0 shape-the_row-Stmt-0 hidden-the_row-Stmt-0 shape-the_row-Cond-0 hidden-the_row-Cond-0 hidden
copies_between_ends = refl

pub ends_of_triangle : EndsOfTriangle
unfolding shape-the_row-Ix-0 hidden-the_row-Ix-0 shape-the_row-Val-0 hidden-the_row-Val-0 shape-the_row-Stmt-0 hidden-the_row-Stmt-0 shape-the_row-Cond-0 hidden-the_row-Cond-0 hidden
ends_of_triangle = refl

pub steps_of_triangle : StepsOfTriangle
unfolding shape-the_row-Ix-0 hidden-the_row-Ix-0 shape-the_row-Val-0 hidden-the_row-Val-0 shape-the_row-Stmt-0 hidden-the_row-Stmt-0 shape-the_row-Cond-0 hidden-the_row-Cond-0 hidden
steps_of_triangle = refl

pub ends_of_more : EndsOfMore
ends_of_more = (refl, refl)
