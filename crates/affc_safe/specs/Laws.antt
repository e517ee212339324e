-- When a program's run ends.
use Rattle.std.specs.Prelude.{◌≡◌, ◌↔◌, ℕ, ◌<◌, ◌≤◌, ℤ, IsTrue, List, [], length, None}
use Rattle.affc_ast.specs.declared.tree.Instance.{Instance}
use Rattle.affc_ast.specs.declared.tree.Program.{Program}
use Rattle.affc_ast.specs.Cause.{Cause}
use Rattle.affc_ast.specs.Fits.{Fits, within_ranges}
use Rattle.affc_ast.specs.Meaning.{State, Ended, Stuck, arrays_of, meaning}
use Rattle.affc_ast.specs.Store.{Element, Store}
use Rattle.affc_ast.specs.Trace.{Assignment, assignments, trace}
use Rattle.affc_trace.specs.Law.{IsIn}
use Rattle.affc_trace.specs.Laws.{IsInContext, IsUnwritten}
use Rattle.affc_trace.specs.Effects.{effect, has_no_locals}
use Rattle.affc_trace.specs.Dataflow.{IsSource}
use Rattle.affc_domain.specs.Accesses.{Access, accesses_of}
use Rattle.affc_domain.specs.Arrays.{declared_arrays}
use Rattle.affc_domain.specs.Plain.{IsPlain}
use Rattle.affc_domain.specs.Ranges.{first_wide}
use Rattle.affc_safe.specs.Overflow.{NeverOverflows}
use Rattle.affc_safe.specs.Safe.{HasExtents, KeepsWithin, LoadsWritten, IsSafe, extents_hold, accesses_hold, loads_hold}

-- A plain program whose iterators keep within 2^31 never overflows.
abbrev pub PlainNeverOverflows : Type 0
PlainNeverOverflows = (program : Program) (p : List ℤ)
    → IsPlain program → first_wide program ≡ None → IsTrue (within_ranges program.params p) → NeverOverflows program p

-- A program without locals that never overflows is stuck, where its extents are at least 1 and its instances keep within
-- them, if at all, for want of a value.
abbrev pub StuckForAValue : Type 0
StuckForAValue = (program : Program) (p : List ℤ) (store : Store) (cause : Cause) (steps : ℕ)
    → IsTrue (has_no_locals program) → IsTrue (within_ranges program.params p) → NeverOverflows program p → HasExtents program p → KeepsWithin program p
    → meaning program p store ≡ Stuck cause steps → IsUnwritten cause

-- The run of a plain program whose iterators keep within 2^31 ends at each p at which it is safe, from each store that fits.
abbrev pub SafeRuns : Type 0
SafeRuns = (program : Program) (p : List ℤ) (store : Store)
    → IsPlain program → first_wide program ≡ None → Fits program p store → IsSafe program p
    → (end : State) × (meaning program p store ≡ Ended end)

-- A program without locals is safe at p where its run ends from one store that fits.
abbrev pub EndedIsSafe : Type 0
EndedIsSafe = (program : Program) (p : List ℤ) (store : Store) (end : State)
    → IsTrue (has_no_locals program) → Fits program p store → meaning program p store ≡ Ended end → IsSafe program p

-- A program without locals that isn't safe at p is stuck there, from each store that fits.
abbrev pub UnsafeIsStuck : Type 0
UnsafeIsStuck = (program : Program) (p : List ℤ) (store : Store)
    → IsTrue (has_no_locals program) → Fits program p store → ¬ (IsSafe program p)
    → (cause : Cause) × (steps : ℕ) × (meaning program p store ≡ Stuck cause steps)

-- At each p of the context some store fits.
abbrev pub SomeStoreFits : Type 0
SomeStoreFits = (program : Program) (p : List ℤ) → IsInContext program p → (store : Store) × Fits program p store

-- So a program without locals whose run ends from each store that fits is safe at p.
abbrev pub NeverStuckIsSafe : Type 0
NeverStuckIsSafe = (program : Program) (p : List ℤ)
    → IsTrue (has_no_locals program) → IsInContext program p
    → ((store : Store) → Fits program p store → (end : State) × (meaning program p store ≡ Ended end)) → IsSafe program p

-- In short: a plain program whose iterators keep within 2^31 is safe at a p of the context exactly where it is never stuck.
abbrev pub SafeIsNeverStuck : Type 0
SafeIsNeverStuck = (program : Program) (p : List ℤ)
    → IsPlain program → first_wide program ≡ None → IsInContext program p
    → IsSafe program p ↔ ((store : Store) → Fits program p store → (end : State) × (meaning program p store ≡ Ended end))

-- One load of a temporary that has no source is enough for a program not to be safe.
abbrev pub UnwrittenInstance : Type 0
UnwrittenInstance = (program : Program) (p : List ℤ) (b : Instance) (x : Element)
    → IsIn b (trace program p) → IsIn x (effect program p b).loads → length (arrays_of program.params) ≤ x.0 → IsSource program p b x None
    → ¬ (IsSafe program p)

-- A program without temporaries is safe where its extents are at least 1 and its instances keep within them, if each load
-- without subscripts is of an array parameter. (Within the extents, a load with a subscript is of a declared array anyway.)
abbrev pub NoTemporariesAreWritten : Type 0
NoTemporariesAreWritten = (program : Program) (p : List ℤ) → program.temps ≡ [] → HasExtents program p → KeepsWithin program p
    → ((b : Instance) (x : Element) → IsIn b (trace program p) → IsIn x (effect program p b).loads → x.1 ≡ [] → x.0 < length (arrays_of program.params))
    → IsSafe program p

-- So it is where all accesses of its text are of declared arrays.
abbrev pub WithoutTemporariesSafe : Type 0
WithoutTemporariesSafe = (program : Program) (p : List ℤ) → program.temps ≡ []
    → ((a : Assignment) (x : Access) → IsIn a (assignments program) → IsIn x (accesses_of a) → x.0.0 < length (declared_arrays program))
    → HasExtents program p → KeepsWithin program p → IsSafe program p

-- The three reasons are found by going through the declared arrays and the instances.
abbrev pub ReasonsAreFound : Type 0
ReasonsAreFound = (program : Program) (p : List ℤ)
    → (HasExtents program p ↔ IsTrue (extents_hold program p)) × (KeepsWithin program p ↔ IsTrue (accesses_hold program p)) × (LoadsWritten program p ↔ IsTrue (loads_hold program p))
