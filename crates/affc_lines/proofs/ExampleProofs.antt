-- The lines that are written out.
use Rattle.std.proofs.Common.{refl}
use Rattle.std.specs.Fmt.{digits}
use denote.Hole.Carrier.{hidden}
use Rattle.affc_ast.specs.declared.tree.Stmt.TheBlock.{shape-the_row-Stmt-0, hidden-the_row-Stmt-0}
use Rattle.affc_ast.specs.declared.tree.Val.TheBlock.{shape-the_row-Val-0, hidden-the_row-Val-0}
use Rattle.affc_lines.specs.Examples.{EachRefusalSays, FaultsOfSources, LimitsOfSources, NumbersAreNamed, RunsAreStuck, ProgramsAreWrong, SchedulesAreWrong}

pub each_refusal_says : EachRefusalSays
unfolding digits
each_refusal_says = ((refl, refl), (refl, refl), (refl, refl), (refl, refl), (refl, refl), (refl, refl), (refl, refl), (refl, refl), (refl, refl), (refl, refl), (refl, refl), (refl, refl), (refl, refl), (refl, refl), (refl, refl), (refl, refl), (refl, refl), (refl, refl), (refl, refl), (refl, refl))

pub faults_of_sources : FaultsOfSources
unfolding digits
faults_of_sources = (refl, refl, refl, refl, refl, refl, refl, refl, refl, refl, refl)

pub limits_of_sources : LimitsOfSources
unfolding digits
limits_of_sources = (refl, refl, refl, refl, refl, refl, refl, refl, refl, refl, refl, refl, refl, refl, refl, refl)

pub numbers_are_named : NumbersAreNamed
unfolding digits
numbers_are_named = (refl, refl)

pub runs_are_stuck : RunsAreStuck
unfolding digits shape-the_row-Val-0 hidden-the_row-Val-0 shape-the_row-Stmt-0 hidden-the_row-Stmt-0 hidden
runs_are_stuck = (refl, refl, refl, refl, refl, refl, refl, refl)

pub programs_are_wrong : ProgramsAreWrong
unfolding digits shape-the_row-Val-0 hidden-the_row-Val-0 shape-the_row-Stmt-0 hidden-the_row-Stmt-0 hidden
programs_are_wrong = (refl, refl, refl, refl, refl, refl, refl)

pub schedules_are_wrong : SchedulesAreWrong
unfolding digits
schedules_are_wrong = (refl, refl, refl, refl, refl, refl, refl, refl)
