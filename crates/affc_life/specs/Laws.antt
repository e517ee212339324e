-- What the clash systems say.
use Rattle.std.specs.Prelude.{◌≡◌, ◌≢◌, ◌↔◌, ℕ, ◌+◌, ◌<◌, ◌≤◌, ℤ, IsTrue, List, length, map, take, Some, slice_get}
use Rattle.std.specs.List.{All}
use Rattle.affc_rows.specs.Forms.{values_of}
use Rattle.affc_system.specs.ElementPairs.{IsPairOf}
use Rattle.affc_system.specs.Pairs.{IsBoxed}
use Rattle.affc_system.specs.Systems.{IsPoint}
use Rattle.affc_system.specs.declared.pairs.PairSystem.{PairSystem}
use Rattle.affc_ast.specs.declared.tree.Program.{Program}
use Rattle.affc_trace.specs.declared.schedule.Schedule.{Schedule}
use Rattle.affc_trace.specs.Dataflow.{LivePair}
use Rattle.affc_trace.specs.Law.{IsIn}
use Rattle.affc_trace.specs.Laws.{IsInContext}
use Rattle.affc_trace.specs.Target.{IsScheduleOf, within_limits}
use Rattle.affc_domain.specs.Ranges.{number_ranges}
use Rattle.affc_nest.specs.declared.nest.ArrayInfo.{ArrayInfo}
use Rattle.affc_nest.specs.declared.nest.Entry.{Entry}
use Rattle.affc_nest.specs.declared.nest.Nest.{Nest}
use Rattle.affc_nest.specs.Laws.{HasNest, NamesArrays, StaysWithin}
use Rattle.affc_nest.specs.Nests.{nest_of}
use Rattle.affc_nest.specs.Parts.{coordinates}
use Rattle.affc_quast.specs.Limits.{Shaped, AreTreesWithin, narrow}
use Rattle.affc_quast.specs.Sources.{loads_in, tree_of, NameSources, HaveNearQuotients}
use Rattle.affc_quast.specs.Trees.{Tree}
use Rattle.affc_conflicts.specs.Conditions.{IsConflict}
use Rattle.affc_life.specs.Asked.{KeepLimits}
use Rattle.affc_life.specs.Clashes.{Clash, clash_of, clashes}
use Rattle.affc_life.specs.Sizes.{AnyLarge}

-- ---- Trees

-- each tree of a load is over the columns of its part, and its divisors are at least 1
abbrev pub AreShaped : Nest → List Tree → Type 0
AreShaped nest trees = (part load : ℕ) (e : Entry) (tree : Tree) → slice_get nest.entries part ≡ Some e → load < loads_in e → tree_of nest trees part load ≡ Some tree
    → Shaped (length nest.params + coordinates e) tree

-- ---- Pairs

-- the array's clash systems, as the code holds them
abbrev pub AreClashes : Program → List Tree → Schedule → (array : ℕ) → List PairSystem → Type 0
AreClashes program trees schedule array systems = map clash_of systems ≡ clashes (nest_of program) trees schedule array

-- At each p of the context at which the trees name the sources, the pairs at the systems' points, in either order, are
-- exactly the live pairs.
abbrev pub ClashesAreLivePairs : Type 0
ClashesAreLivePairs = (program : Program) (trees : List Tree) (schedule : Schedule) (array : ℕ) (systems : List PairSystem) (p x y : List ℤ)
    → HasNest program → NamesArrays program → IsScheduleOf program schedule → AreShaped (nest_of program) trees
    → AreClashes program trees schedule array systems
    → IsInContext program p → NameSources program p (nest_of program) trees
    → IsPairOf systems p x y ↔ LivePair program schedule array p x y

-- The first numbers of each point of a clash system are a p of the context.
abbrev pub PointsAreInContext : Type 0
PointsAreInContext = (program : Program) (trees : List Tree) (schedule : Schedule) (array : ℕ) (c : Clash) (point : List ℤ)
    → HasNest program → AreShaped (nest_of program) trees
    → IsIn c (clashes (nest_of program) trees schedule array) → IsPoint c.system point
    → IsInContext program (take (length (number_ranges program.params)) point)

-- The elements of a pair differ.
abbrev pub ElementsDiffer : Type 0
ElementsDiffer = (program : Program) (trees : List Tree) (schedule : Schedule) (array : ℕ) (c : Clash) (point : List ℤ)
    → HasNest program → AreShaped (nest_of program) trees
    → IsIn c (clashes (nest_of program) trees schedule array) → IsPoint c.system point
    → values_of c.x point ≢ values_of c.y point

-- Where throughout the context the quotients on the way to each instance's leaf are within 2^60, each clash system is boxed
-- by its ranges.
abbrev pub ClashesAreBoxed : Type 0
ClashesAreBoxed = (program : Program) (trees : List Tree) (schedule : Schedule) (array : ℕ) (c : Clash)
    → HasNest program → AreShaped (nest_of program) trees
    → ((p : List ℤ) → IsInContext program p → HaveNearQuotients program p (nest_of program) trees)
    → IsIn c (clashes (nest_of program) trees schedule array) → IsBoxed c.system c.ranges

-- ---- Sizes

-- the limits of the trees that the search gives: 302 tests and divisions on a path, of which 12 are divisions
abbrev pub AreFound : Nest → List Tree → Type 0
AreFound nest trees = AreTreesWithin narrow 302 12 nest trees

-- Such trees keep the limits that are asked of trees,
abbrev pub FoundTreesKeepLimits : Type 0
FoundTreesKeepLimits = (nest : Nest) (trees : List Tree) → AreFound nest trees → KeepLimits nest trees

-- and under a schedule within the limits none of their clash systems is too large.
abbrev pub FoundTreesAreNeverLarge : Type 0
FoundTreesAreNeverLarge = (program : Program) (trees : List Tree) (schedule : Schedule) (array : ℕ)
    → HasNest program → NamesArrays program → IsScheduleOf program schedule → IsTrue (within_limits schedule) → AreFound (nest_of program) trees
    → ¬ (AnyLarge (clashes (nest_of program) trees schedule array))

-- each has so few columns and rows that most of a system's are left.
abbrev pub FoundTreesLeaveRoom : Type 0
FoundTreesLeaveRoom = (program : Program) (trees : List Tree) (schedule : Schedule) (array : ℕ) (clash : Clash)
    → HasNest program → NamesArrays program → IsScheduleOf program schedule → IsTrue (within_limits schedule) → AreFound (nest_of program) trees
    → IsIn clash (clashes (nest_of program) trees schedule array) → (clash.system.columns ≤ 28) × (length clash.system.rows ≤ 638)

-- ---- Conflicts

-- Where throughout the context each access lies within its array and the quotients on the way are within 2^60, the clash
-- systems are conflicts over the context.
abbrev pub ClashesAreConflicts : Type 0
ClashesAreConflicts = (program : Program) (trees : List Tree) (schedule : Schedule) (array : ℕ) (info : ArrayInfo) (systems : List PairSystem)
    → HasNest program → NamesArrays program → IsScheduleOf program schedule → IsTrue (within_limits schedule) → AreFound (nest_of program) trees
    → ((p : List ℤ) → IsInContext program p → StaysWithin program p × HaveNearQuotients program p (nest_of program) trees)
    → slice_get (nest_of program).arrays array ≡ Some info → AreClashes program trees schedule array systems
    → All (IsConflict (nest_of program).context (nest_of program).params info.extents) systems
