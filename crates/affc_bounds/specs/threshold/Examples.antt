-- Thresholds of small programs, found by hand.
use Rattle.std.specs.Prelude.{◌≡◌, []}
use Rattle.affc_leaf.specs.Points.{points}
use Rattle.affc_trace.specs.declared.schedule.Schedule.TheVariants.{Source}
use Rattle.affc_trace.specs.Examples.{blur, together}
use Rattle.affc_nest.specs.declared.nest.Nest.{Nest}
use Rattle.affc_nest.specs.Nests.{nest_of}
use Rattle.affc_bounds.specs.threshold.Thresholds.{breadth, turns, threshold}

-- Two statements, with two and with four accesses; one component of time, or none; arrays of one dimension. N is from 1 to 4, and the
-- first loop has six turns where N is 4.
abbrev pub OfTheBlur : Type 0
OfTheBlur =
    (breadth (nest_of blur) together ≡ 90)
    × (breadth (nest_of blur) Source ≡ 60)
    × (points (nest_of blur).params ≡ 4)
    × (turns (nest_of blur) ≡ 6)
    × (threshold (nest_of blur) together ≡ 10567230160896000)

abbrev pub nothing : Nest
nothing = record { params = []; context = record { columns = 0; rows = [] }; arrays = []; entries = [] }

-- each size is one more than what there is, and two more for a time
abbrev pub OfNothing : Type 0
OfNothing = (turns nothing ≡ 1) × (threshold nothing Source ≡ 134217728)
