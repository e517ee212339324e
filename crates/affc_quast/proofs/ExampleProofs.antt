-- Each example computes.
use Rattle.std.proofs.Common.{refl}
use Rattle.affc_quast.specs.Examples.{TestsAreMetAtZero, QuotientsRoundDown, WaysAreCounted, LeavesInOrder, PaddedBehind, RangesOfQuotients, TreesInOrder}

pub tests_are_met_at_zero : TestsAreMetAtZero
tests_are_met_at_zero = (refl, refl, refl)

pub quotients_round_down : QuotientsRoundDown
quotients_round_down = (refl, refl, refl, refl)

pub ways_are_counted : WaysAreCounted
ways_are_counted = (refl, refl, refl, refl, refl, refl, refl, refl)

pub leaves_in_order : LeavesInOrder
leaves_in_order = refl

pub padded_behind : PaddedBehind
padded_behind = refl

pub ranges_of_quotients : RangesOfQuotients
ranges_of_quotients = (refl, refl)

pub trees_in_order : TreesInOrder
trees_in_order = (refl, refl, refl)
