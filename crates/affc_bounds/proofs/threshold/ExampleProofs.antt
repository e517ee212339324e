-- Each example computes.
use Rattle.std.proofs.Common.{refl}
use denote.Hole.Carrier.{hidden}
use Rattle.affc_ast.specs.declared.tree.Ix.TheBlock.{shape-the_row-Ix-0, hidden-the_row-Ix-0}
use Rattle.affc_ast.specs.declared.tree.Val.TheBlock.{shape-the_row-Val-0, hidden-the_row-Val-0}
use Rattle.affc_ast.specs.declared.tree.Stmt.TheBlock.{shape-the_row-Stmt-0, hidden-the_row-Stmt-0}
use Rattle.affc_bounds.specs.threshold.Examples.{OfTheBlur, OfNothing}

pub of_the_blur : OfTheBlur
unfolding shape-the_row-Ix-0 hidden-the_row-Ix-0 shape-the_row-Val-0 hidden-the_row-Val-0 shape-the_row-Stmt-0 hidden-the_row-Stmt-0 hidden
of_the_blur = (refl, refl, refl, refl, refl)

pub of_nothing : OfNothing
unfolding hidden
of_nothing = (refl, refl)
