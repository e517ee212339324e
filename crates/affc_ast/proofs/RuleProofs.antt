-- Each rule computes.
use Rattle.std.proofs.Common.{refl, lit<}
use Rattle.std.proofs.lemmas.Bool.{false≢true}
use denote.Hole.Carrier.{hidden}
use Rattle.affc_ast.specs.declared.tree.Ix.TheBlock.{shape-the_row-Ix-0, hidden-the_row-Ix-0}
use Rattle.affc_ast.specs.declared.tree.Cond.TheBlock.{shape-the_row-Cond-0, hidden-the_row-Cond-0}
use Rattle.affc_ast.specs.declared.tree.Stmt.TheBlock.{shape-the_row-Stmt-0, hidden-the_row-Stmt-0}
use Rattle.affc_ast.specs.declared.tree.Val.TheBlock.{shape-the_row-Val-0, hidden-the_row-Val-0}
use Rattle.affc_ast.specs.Rules.{LeftSidesComeFirst, LeftLoadsComeFirst, LowerBoundsComeFirst, LeftSubscriptsComeFirst, SubscriptsComeBeforeValues, ValuesComeBeforeStores, UnwrittenLoadsAreCounted, SubscriptsHaveTheirExtents, LastSubscriptsRunFastest, ValuesAreStored, EachFormHasItsNodes, NodesAreCounted, LocalsAreNoIterators, ConditionsAreLookedInto, FalseContextsAreUnmet, KeywordsAreReserved, AssignmentsAreToArrays, SubscriptsAreAsDimensions}

pub left_sides_come_first : LeftSidesComeFirst
unfolding shape-the_row-Ix-0 hidden-the_row-Ix-0 shape-the_row-Val-0 hidden-the_row-Val-0 shape-the_row-Stmt-0 hidden-the_row-Stmt-0 shape-the_row-Cond-0 hidden-the_row-Cond-0 hidden
left_sides_come_first = (refl, refl, refl)

pub left_loads_come_first : LeftLoadsComeFirst
unfolding shape-the_row-Ix-0 hidden-the_row-Ix-0 shape-the_row-Val-0 hidden-the_row-Val-0 shape-the_row-Stmt-0 hidden-the_row-Stmt-0 shape-the_row-Cond-0 hidden-the_row-Cond-0 hidden
left_loads_come_first = refl

pub lower_bounds_come_first : LowerBoundsComeFirst
unfolding shape-the_row-Ix-0 hidden-the_row-Ix-0 shape-the_row-Val-0 hidden-the_row-Val-0 shape-the_row-Stmt-0 hidden-the_row-Stmt-0 shape-the_row-Cond-0 hidden-the_row-Cond-0 hidden
lower_bounds_come_first = (refl, refl)

pub left_subscripts_come_first : LeftSubscriptsComeFirst
unfolding shape-the_row-Ix-0 hidden-the_row-Ix-0 shape-the_row-Val-0 hidden-the_row-Val-0 shape-the_row-Stmt-0 hidden-the_row-Stmt-0 shape-the_row-Cond-0 hidden-the_row-Cond-0 hidden
left_subscripts_come_first = refl

pub subscripts_come_before_values : SubscriptsComeBeforeValues
unfolding shape-the_row-Ix-0 hidden-the_row-Ix-0 shape-the_row-Val-0 hidden-the_row-Val-0 shape-the_row-Stmt-0 hidden-the_row-Stmt-0 shape-the_row-Cond-0 hidden-the_row-Cond-0 hidden
subscripts_come_before_values = refl

pub values_come_before_stores : ValuesComeBeforeStores
unfolding shape-the_row-Ix-0 hidden-the_row-Ix-0 shape-the_row-Val-0 hidden-the_row-Val-0 shape-the_row-Stmt-0 hidden-the_row-Stmt-0 shape-the_row-Cond-0 hidden-the_row-Cond-0 hidden
values_come_before_stores = refl

pub unwritten_loads_are_counted : UnwrittenLoadsAreCounted
unfolding shape-the_row-Ix-0 hidden-the_row-Ix-0 shape-the_row-Val-0 hidden-the_row-Val-0 shape-the_row-Stmt-0 hidden-the_row-Stmt-0 shape-the_row-Cond-0 hidden-the_row-Cond-0 hidden
unwritten_loads_are_counted = refl

pub subscripts_have_their_extents : SubscriptsHaveTheirExtents
unfolding shape-the_row-Ix-0 hidden-the_row-Ix-0 shape-the_row-Val-0 hidden-the_row-Val-0 shape-the_row-Stmt-0 hidden-the_row-Stmt-0 shape-the_row-Cond-0 hidden-the_row-Cond-0 hidden
subscripts_have_their_extents = (refl, refl)

pub last_subscripts_run_fastest : LastSubscriptsRunFastest
unfolding shape-the_row-Ix-0 hidden-the_row-Ix-0 shape-the_row-Val-0 hidden-the_row-Val-0 shape-the_row-Stmt-0 hidden-the_row-Stmt-0 shape-the_row-Cond-0 hidden-the_row-Cond-0 hidden
last_subscripts_run_fastest = refl

pub values_are_stored : ValuesAreStored
unfolding shape-the_row-Ix-0 hidden-the_row-Ix-0 shape-the_row-Val-0 hidden-the_row-Val-0 shape-the_row-Stmt-0 hidden-the_row-Stmt-0 shape-the_row-Cond-0 hidden-the_row-Cond-0 hidden
values_are_stored = refl

pub each_form_has_its_nodes : EachFormHasItsNodes
unfolding shape-the_row-Ix-0 hidden-the_row-Ix-0 shape-the_row-Val-0 hidden-the_row-Val-0 shape-the_row-Stmt-0 hidden-the_row-Stmt-0 shape-the_row-Cond-0 hidden-the_row-Cond-0 hidden
each_form_has_its_nodes = refl

pub nodes_are_counted : NodesAreCounted
unfolding shape-the_row-Ix-0 hidden-the_row-Ix-0 shape-the_row-Val-0 hidden-the_row-Val-0 shape-the_row-Stmt-0 hidden-the_row-Stmt-0 shape-the_row-Cond-0 hidden-the_row-Cond-0 hidden
nodes_are_counted = (refl, refl, refl, refl)

pub locals_are_no_iterators : LocalsAreNoIterators
unfolding shape-the_row-Ix-0 hidden-the_row-Ix-0 shape-the_row-Val-0 hidden-the_row-Val-0 shape-the_row-Stmt-0 hidden-the_row-Stmt-0 shape-the_row-Cond-0 hidden-the_row-Cond-0 hidden
locals_are_no_iterators = refl

pub conditions_are_looked_into : ConditionsAreLookedInto
unfolding shape-the_row-Ix-0 hidden-the_row-Ix-0 shape-the_row-Val-0 hidden-the_row-Val-0 shape-the_row-Stmt-0 hidden-the_row-Stmt-0 shape-the_row-Cond-0 hidden-the_row-Cond-0 hidden
conditions_are_looked_into = (refl, refl)

pub false_contexts_are_unmet : FalseContextsAreUnmet
unfolding shape-the_row-Ix-0 hidden-the_row-Ix-0 shape-the_row-Val-0 hidden-the_row-Val-0 shape-the_row-Stmt-0 hidden-the_row-Stmt-0 shape-the_row-Cond-0 hidden-the_row-Cond-0 hidden
false_contexts_are_unmet = refl

pub keywords_are_reserved : KeywordsAreReserved
unfolding shape-the_row-Ix-0 hidden-the_row-Ix-0 shape-the_row-Val-0 hidden-the_row-Val-0 shape-the_row-Stmt-0 hidden-the_row-Stmt-0 shape-the_row-Cond-0 hidden-the_row-Cond-0 hidden
keywords_are_reserved = (refl, refl)

pub assignments_are_to_arrays : AssignmentsAreToArrays
unfolding shape-the_row-Ix-0 hidden-the_row-Ix-0 shape-the_row-Val-0 hidden-the_row-Val-0 shape-the_row-Stmt-0 hidden-the_row-Stmt-0 shape-the_row-Cond-0 hidden-the_row-Cond-0 hidden
assignments_are_to_arrays = (record { arrays = lit< tt; nodes = lit< tt; assigns = lit< tt; own_arrays = refl }, λ c. false≢true c.own_arrays)

pub subscripts_are_as_dimensions : SubscriptsAreAsDimensions
unfolding shape-the_row-Ix-0 hidden-the_row-Ix-0 shape-the_row-Val-0 hidden-the_row-Val-0 shape-the_row-Stmt-0 hidden-the_row-Stmt-0 shape-the_row-Cond-0 hidden-the_row-Cond-0 hidden
subscripts_are_as_dimensions = (refl, refl, refl, refl, refl)
