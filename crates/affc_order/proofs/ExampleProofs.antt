-- Each example computes.
use Rattle.std.proofs.Common.{refl}
use Rattle.affc_order.specs.Examples.{FirstInTheLoop, SecondInTheLoop, TwoOfOneStatement, NoLoopIsShared, TimesAreCompared, TurnedTimesAreCompared, SourceIsATarget, ColumnsBetween}

pub first_in_the_loop : FirstInTheLoop
first_in_the_loop = refl

pub second_in_the_loop : SecondInTheLoop
second_in_the_loop = refl

pub two_of_one_statement : TwoOfOneStatement
two_of_one_statement = refl

pub no_loop_is_shared : NoLoopIsShared
no_loop_is_shared = (refl, refl)

pub times_are_compared : TimesAreCompared
times_are_compared = refl

pub turned_times_are_compared : TurnedTimesAreCompared
turned_times_are_compared = refl

pub source_is_a_target : SourceIsATarget
source_is_a_target = (refl, refl)

pub columns_between : ColumnsBetween
columns_between = refl
