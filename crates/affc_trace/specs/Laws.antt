-- The laws by which a program may be reordered and its arrays folded, at given programs.
use Rattle.std.specs.Prelude.{◌≡◌, ◌↔◌, ℕ, ◌<◌, ℤ, IsTrue, List, [], Option, Some, None, length, map}
use Rattle.std.specs.declared.cmp.Ordering.TheVariants.{Less}
use Rattle.affc_ast.specs.declared.tree.Instance.{Instance}
use Rattle.affc_ast.specs.declared.tree.Program.{Program}
use Rattle.affc_ast.specs.Cause.{Cause, Extent, Overflow, OutOfBounds, Unwritten}
use Rattle.affc_ast.specs.Store.{Element, Store, at}
use Rattle.affc_ast.specs.Meaning.{State, Ended, Stuck, meaning, arrays_of}
use Rattle.affc_ast.specs.Fits.{Fits, within_ranges, meets}
use Rattle.affc_ast.specs.Trace.{trace}
use Rattle.affc_ast.specs.Follows.{Stored}
use Rattle.affc_ast.specs.Compiles.{RunsAs, Compiles}
use Rattle.affc_trace.specs.declared.schedule.TimeMap.{TimeMap}
use Rattle.affc_trace.specs.declared.schedule.Schedule.{Schedule}
use Rattle.affc_trace.specs.declared.schedule.Schedule.TheVariants.{Time}
use Rattle.affc_trace.specs.Law.{IsIn, placed, stores_of, as_stored, SameLastStores, HandedIn}
use Rattle.affc_trace.specs.Orders.{Earlier, IsReordered, KeepsArrays}
use Rattle.affc_trace.specs.Target.{time_cmp, ordered, target, IsInOrder, numbers_in, IsScheduleOf}
use Rattle.affc_trace.specs.Effects.{effect, effects, has_no_locals}
use Rattle.affc_trace.specs.Dataflow.{same_element, Buffers, OneBuffer, Legal, Violates, IsSource, IsLastWrite, NoneWrites, AreLive, Admissible, source, live_pairs, violations}

-- ---- Premises

-- the declared ranges and the conditions of the context
pub record IsInContext (program : Program) (p : List ℤ) : Type 0 where
  pub ranges : IsTrue (within_ranges program.params p)
  pub context : IsTrue (meets program.context p)

-- only elements of parameter arrays have a value, as in each store that fits
abbrev pub HoldsParameters : Program → Store → Type 0
HoldsParameters program store = (x : Element) (v : ℕ) → at store x ≡ Some v → x.0 < length (arrays_of program.params)

-- each element of a parameter array is its own place
abbrev pub LeavesParameters : Program → (Element → Element) → Type 0
LeavesParameters program place = (x : Element) → x.0 < length (arrays_of program.params) → place x ≡ x

-- An element's place is in its array's buffer, and no other array is put into one that is handed in.
pub record KeepsParameters (buffer : Buffers) (program : Program) (place : Element → Element) : Type 0 where
  pub in_buffer : (x : Element) → (place x).0 ≡ buffer x.0
  pub own : LeavesParameters program place
  pub no_other : (array : ℕ) → buffer array < length (arrays_of program.params) → array < length (arrays_of program.params)

abbrev pub IsUnwritten : Cause → Type 0
IsUnwritten (Unwritten instance access) = Unit {0}
IsUnwritten (Extent array) = ⊥
IsUnwritten (Overflow node) = ⊥
IsUnwritten (OutOfBounds instance access) = ⊥

-- What a printed program has to give: it does what the instances of `source` do, in the order of the schedule and with each
-- element at its place, and it is stuck, if at all, only for want of a value.
pub record RunsTarget (printed source : Program) (schedule : Schedule) (place : Element → Element) (p : List ℤ) (store : Store) : Type 0 where
  pub does : effects printed p ≡ map (placed place (effect source p)) (target source schedule p)
  pub only_unwritten : (cause : Cause) (steps : ℕ) → meaning printed p store ≡ Stuck cause steps → IsUnwritten cause

-- the stores of a run, each with its instance, in the order of the schedule
abbrev pub in_target_order : Schedule → List ℤ → List Stored → List Stored
in_target_order schedule p = ordered (λ (s : Stored). s.instance) schedule p

-- What is shown of a printed program, so that it compiles its source: see CompilesSource, whose premises these are.
pub record SourcePremises (buffer : Buffers) (printed source : Program) (schedule : Schedule) (place : List ℤ → Element → Element) : Type 0 where
  pub plain : IsTrue (has_no_locals source)
  pub name : printed.name ≡ source.name
  pub params : printed.params ≡ source.params
  pub context : printed.context ≡ source.context
  pub ends : (p : List ℤ) (store : Store) → Fits source p store → (end : State) × (meaning source p store ≡ Ended end)
  pub legal : (p : List ℤ) → IsInContext source p → Legal source schedule p
  pub admissible : (p : List ℤ) → IsInContext source p → Admissible buffer source schedule p (place p)
  pub keeps : (p : List ℤ) → IsInContext source p → KeepsParameters buffer source (place p)
  pub runs : (p : List ℤ) (store : Store) → Fits source p store → RunsTarget printed source schedule (place p) p store

-- ---- Laws

-- A run that ends stores what the effects of the program's assignments store, in order.
abbrev pub RunOfEffects : Type 0
RunOfEffects = (program : Program) (p : List ℤ) (store : Store) (end : State)
    → meaning program p store ≡ Ended end → stores_of same_element (at store) [] (effects program p) ≡ Some end.written

-- Without locals these are the effects of the trace's instances.
abbrev pub EffectsOfTrace : Type 0
EffectsOfTrace = (program : Program) (p : List ℤ) → IsTrue (has_no_locals program) → effects program p ≡ map (effect program p) (trace program p)

-- Each instance stands once in the trace, and once in the target.
abbrev pub TargetIsReordered : Type 0
TargetIsReordered = (program : Program) (schedule : Schedule) (p : List ℤ) → IsReordered (trace program p) (target program schedule p)

-- Under a schedule of the program that gives times, the target is the one list of the trace's instances in increasing order.
abbrev pub TargetIsInOrder : Type 0
TargetIsInOrder = (program : Program) (length_of_time : ℕ) (maps : List TimeMap) (p : List ℤ)
    → IsScheduleOf program (Time length_of_time maps) → length p ≡ numbers_in program.params
    → IsInOrder (time_cmp maps p) (trace program p) (target program (Time length_of_time maps) p)
    × ((order : List Instance) → IsInOrder (time_cmp maps p) (trace program p) order → order ≡ target program (Time length_of_time maps) p)

-- Under such a schedule, an instance stands before another in the target exactly where both are in the trace and it is less: by
-- time, and then by the statement's number.
abbrev pub TargetIsByTime : Type 0
TargetIsByTime = (program : Program) (length_of_time : ℕ) (maps : List TimeMap) (p : List ℤ) (a b : Instance)
    → IsScheduleOf program (Time length_of_time maps) → length p ≡ numbers_in program.params
    → Earlier (target program (Time length_of_time maps) p) a b
    ↔ (IsIn a (trace program p) × IsIn b (trace program p) × (time_cmp maps p a b ≡ Less))

-- The source of a load is the earlier instance that stores the element and has no such instance between itself and the load;
-- there is none exactly where no earlier instance stores the element.
abbrev pub SourceInItsOwnWords : Type 0
SourceInItsOwnWords = (program : Program) (p : List ℤ) (b : Instance) (x : Element)
    → ((w : Instance) → IsSource program p b x (Some w) ↔ IsLastWrite program p b x w)
    × (IsSource program p b x None ↔ NoneWrites program p b x)

-- The lists that compute hold exactly the sources, the live pairs and the dependences that are turned round.
abbrev pub SourceIsFound : Type 0
SourceIsFound = (program : Program) (p : List ℤ) (b : Instance) (x : Element) (s : Option Instance)
    → IsSource program p b x s ↔ (IsIn b (trace program p) × (source program p b x ≡ s))

abbrev pub LivePairsAreFound : Type 0
LivePairsAreFound = (program : Program) (schedule : Schedule) (p : List ℤ) (x y : Element)
    → IsIn (x, y) (live_pairs program schedule p) ↔ AreLive program schedule p x y

abbrev pub ViolationsAreFound : Type 0
ViolationsAreFound = (program : Program) (schedule : Schedule) (p : List ℤ) (a b : Instance)
    → IsIn (a, b) (violations program schedule p) ↔ Violates program schedule p a b

abbrev pub LegalHasNoViolations : Type 0
LegalHasNoViolations = (program : Program) (schedule : Schedule) (p : List ℤ) → Legal program schedule p ↔ (violations program schedule p ≡ [])

-- What the instances store in a run that ends is a function of the instance.
abbrev pub ValuesByInstance : Type 0
ValuesByInstance = (source : Program) (p : List ℤ) (store : Store) (end : State) → IsTrue (has_no_locals source) → meaning source p store ≡ Ended end
    → (v : Instance → ℕ) × (end.written ≡ as_stored (effect source p) v (trace source p))

-- Data that fit give values to parameter arrays alone, and so they are found at their places, each at a place that no other
-- element has, where parameters keep theirs.
abbrev pub FittingDataIsKept : Type 0
FittingDataIsKept = (buffer : Buffers) (source : Program) (p : List ℤ) (store : Store) (place : Element → Element)
    → Fits source p store → KeepsParameters buffer source place
    → HoldsParameters source store × KeepsArrays (OneBuffer buffer) place (at store) × HandedIn place (at store) (at store)

-- Where the run ends and parameter arrays alone hold values at the start, a load without a source is of an element of a
-- parameter array, which is handed in with a value.
abbrev pub LoadsWithoutSource : Type 0
LoadsWithoutSource = (source : Program) (p : List ℤ) (store : Store) (end : State) (b : Instance) (x : Element)
    → IsTrue (has_no_locals source) → HoldsParameters source store → meaning source p store ≡ Ended end
    → IsIn x (effect source p b).loads → IsSource source p b x None
    → (x.0 < length (arrays_of source.params)) × ((v : ℕ) × (at store x ≡ Some v))

-- The law of last stores: where each load in `order` finds, at the place of its element, a store by the instance that is the
-- load's source, or none where it has none, and each element of a parameter array is its own place, all instances store the
-- values that they store in the source's run.
abbrev pub EqualLastStores : Type 0
EqualLastStores = (source : Program) (p : List ℤ) (store : Store) (end : State) (place : Element → Element) (v : Instance → ℕ) (order : List Instance)
    → IsTrue (has_no_locals source) → HoldsParameters source store → meaning source p store ≡ Ended end
    → end.written ≡ as_stored (effect source p) v (trace source p)
    → LeavesParameters source place
    → SameLastStores same_element same_element place (effect source p) (trace source p) order
    → stores_of same_element (at store) [] (map (placed place (effect source p)) order) ≡ Some (as_stored (placed place (effect source p)) v order)

-- A legal schedule and admissible places give the premise of that law, where the source's run ends.
abbrev pub KeepsSources : Type 0
KeepsSources = (buffer : Buffers) (source : Program) (schedule : Schedule) (p : List ℤ) (store : Store) (end : State) (place : Element → Element)
    → IsTrue (has_no_locals source) → HoldsParameters source store → meaning source p store ≡ Ended end
    → Legal source schedule p → Admissible buffer source schedule p place → KeepsParameters buffer source place
    → SameLastStores same_element same_element place (effect source p) (trace source p) (target source schedule p)

-- So a printed program that runs the target follows the source, and the output arrays hold the same at both ends.
abbrev pub RunsAsSource : Type 0
RunsAsSource = (buffer : Buffers) (printed source : Program) (schedule : Schedule) (p : List ℤ) (store : Store) (end : State) (place : Element → Element)
    → IsTrue (has_no_locals source) → printed.params ≡ source.params → Fits source p store → meaning source p store ≡ Ended end
    → Legal source schedule p → Admissible buffer source schedule p place → KeepsParameters buffer source place
    → RunsTarget printed source schedule place p store
    → RunsAs printed source (in_target_order schedule p) place p store

-- The same for all data that fit.
abbrev pub CompilesSource : Type 0
CompilesSource = (buffer : Buffers) (printed source : Program) (schedule : Schedule) (place : List ℤ → Element → Element)
    → IsTrue (has_no_locals source)
    → printed.name ≡ source.name → printed.params ≡ source.params → printed.context ≡ source.context
    → ((p : List ℤ) (store : Store) → Fits source p store → (end : State) × (meaning source p store ≡ Ended end))
    → ((p : List ℤ) → IsInContext source p → Legal source schedule p)
    → ((p : List ℤ) → IsInContext source p → Admissible buffer source schedule p (place p))
    → ((p : List ℤ) → IsInContext source p → KeepsParameters buffer source (place p))
    → ((p : List ℤ) (store : Store) → Fits source p store → RunsTarget printed source schedule (place p) p store)
    → Compiles printed source (in_target_order schedule) place

-- With the premises as a record.
abbrev pub PremisesCompile : Type 0
PremisesCompile = (buffer : Buffers) (printed source : Program) (schedule : Schedule) (place : List ℤ → Element → Element)
    → SourcePremises buffer printed source schedule place → Compiles printed source (in_target_order schedule) place
