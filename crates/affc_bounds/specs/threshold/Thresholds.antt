-- How much work counts as unlimited: a threshold of affc's own, and no count of the work that a program needs.
use Rattle.std.specs.Prelude.{ℕ, ◌+◌, ◌*◌, ◌^◌, max, List, [], ◌∷◌, length, map}
use Rattle.affc_leaf.specs.Points.{points}
use Rattle.affc_trace.specs.declared.schedule.Schedule.{Schedule}
use Rattle.affc_trace.specs.declared.schedule.Schedule.TheVariants.{Source, Time}
use Rattle.affc_nest.specs.declared.nest.Nest.{Nest}

-- the greatest of these numbers, and no less than the first
abbrev pub greatest : ℕ → List ℕ → ℕ
greatest least [] = least
greatest least (n ∷ ns) = max n (greatest least ns)

abbrev pub cube : ℕ → ℕ
cube n = n * (n * n)

-- the most turns of the loops round one statement, by the loops' ranges; a statement that can't have instances has no ranges
abbrev pub turns : Nest → ℕ
turns nest = greatest 1 (map (λ e. points e.ranges) nest.entries)

-- the most accesses of one statement
abbrev pub accesses_of : Nest → ℕ
accesses_of nest = greatest 0 (map (λ e. length e.accesses) nest.entries)

-- the most dimensions of one array
abbrev pub dimensions_of : Nest → ℕ
dimensions_of nest = greatest 0 (map (λ a. length a.extents) nest.arrays)

-- how many components a time has
abbrev pub components_of : Schedule → ℕ
components_of Source = 0
components_of (Time components maps) = components

-- the sizes of a program and a schedule, multiplied
abbrev pub breadth : Nest → Schedule → ℕ
breadth nest schedule = (length nest.entries + 1) * ((accesses_of nest + 1) * ((components_of schedule + 2) * (dimensions_of nest + 1)))

-- with so many units or more, nothing is counted
abbrev pub threshold : Nest → Schedule → ℕ
threshold nest schedule = (cube (breadth nest schedule) * (points nest.params * cube (turns nest))) * 2 ^ 24
