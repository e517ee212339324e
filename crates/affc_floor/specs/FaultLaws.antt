-- At which event a run is stuck.
use Rattle.std.specs.Prelude.{◌≡◌, ℕ, ℤ, IsTrue, true, nat_lt, is_some, List, [], get_or, length, Some, None}
use Rattle.affc_ast.specs.declared.tree.Instance.{Instance}
use Rattle.affc_ast.specs.declared.tree.Program.{Program}
use Rattle.affc_ast.specs.declared.tree.Decl.{Decl}
use Rattle.affc_ast.specs.Cause.{Cause, Extent}
use Rattle.affc_ast.specs.Fits.{Fits, within_ranges}
use Rattle.affc_ast.specs.Meaning.{State, Ended, Stuck, arrays_of, meaning}
use Rattle.affc_ast.specs.Store.{Element, Store, at}
use Rattle.affc_ast.specs.Trace.{trace}
use Rattle.affc_ast.specs.Values.{is_within}
use Rattle.affc_trace.specs.Effects.{effect, has_no_locals}
use Rattle.affc_trace.specs.Law.{Effect, IsIn}
use Rattle.affc_domain.specs.Arrays.{declared_arrays, extents_at}
use Rattle.affc_safe.specs.Overflow.{AreReadable, NeverOverflows}
use Rattle.affc_safe.specs.Safe.{HasExtents}
use Rattle.affc_floor.specs.Faults.{Holding, first_fault, first_low, cause_of}

-- A program without locals that never overflows, and whose extents are at least 1, is stuck at the first event of its trace that is
-- wrong, and ends where none is.
abbrev pub RunsToFirstFault : Type 0
RunsToFirstFault = (program : Program) (p : List ℤ) (store : Store)
    → IsTrue (has_no_locals program) → IsTrue (within_ranges program.params p) → NeverOverflows program p → HasExtents program p
    → cause_of (meaning program p store) ≡ first_fault (extents_at (declared_arrays program) p) (effect program p) (λ x. is_some (at store x)) (trace program p)

-- Which elements hold a value at the start matters only for those within the extents.
abbrev pub FaultsByArrays : Type 0
FaultsByArrays = (extents : List (List ℤ)) (its : Instance → Effect Element ℕ) (has has' : Holding) (is : List Instance)
    → ((x : Element) → is_within x.1 (get_or extents x.0 []) ≡ true → has x ≡ has' x)
    → first_fault extents its has is ≡ first_fault extents its has' is

-- the elements of parameter arrays
abbrev pub is_handed_in : Program → Holding
is_handed_in program x = nat_lt x.0 (length (arrays_of program.params))

-- So from each store that fits it is stuck for this cause,
abbrev pub FirstFaultStops : Type 0
FirstFaultStops = (program : Program) (p : List ℤ) (store : Store) (cause : Cause)
    → IsTrue (has_no_locals program) → Fits program p store → NeverOverflows program p → HasExtents program p
    → first_fault (extents_at (declared_arrays program) p) (effect program p) (is_handed_in program) (trace program p) ≡ Some cause
    → (steps : ℕ) × (meaning program p store ≡ Stuck cause steps)

-- or ends where there is none.
abbrev pub NoFaultEnds : Type 0
NoFaultEnds = (program : Program) (p : List ℤ) (store : Store)
    → IsTrue (has_no_locals program) → Fits program p store → NeverOverflows program p → HasExtents program p
    → first_fault (extents_at (declared_arrays program) p) (effect program p) (is_handed_in program) (trace program p) ≡ None
    → (end : State) × (meaning program p store ≡ Ended end)

-- Before all events it is stuck for the first array with an extent below 1.
abbrev pub LowExtentStops : Type 0
LowExtentStops = (program : Program) (p : List ℤ) (store : Store) (array : ℕ)
    → ((d : Decl) → IsIn d (declared_arrays program) → AreReadable d.extents p)
    → first_low 0 (declared_arrays program) p ≡ Some array
    → meaning program p store ≡ Stuck (Extent array) 0
