-- What is wrong with a program whatever its data: its iterators may go too far, its context is empty, or it leaves its arrays.
use Rattle.std.specs.Prelude.{◌≡◌, ℕ, ℤ, List, None, Some}
use Rattle.affc_ast.specs.declared.tree.Instance.{Instance}
use Rattle.affc_ast.specs.declared.tree.Program.{Program}
use Rattle.affc_trace.specs.Laws.{IsInContext}
use Rattle.affc_domain.specs.Ranges.{first_wide}
use Rattle.affc_safe.specs.Safe.{HasExtents, KeepsWithin}
use Rattle.affc_split.specs.declared.budget.Stop.{Stop}
use Rattle.affc_split.specs.declared.budget.Stop.TheVariants as stop
use Rattle.affc_bounds.specs.Spots.{IsFirstNarrow, IsFirstOutside}
use Rattle.affc_bounds.specs.declared.fault.MeaningFault.{MeaningFault}
use Rattle.affc_bounds.specs.declared.fault.MeaningFault.TheVariants.{IteratorRange, Context, Extent, Bounds}
use Rattle.affc_bounds.specs.declared.fault.Halt.{Halt}
use Rattle.affc_bounds.specs.declared.fault.Halt.TheVariants as halt

-- At each p of the context all extents are at least 1.
abbrev pub ExtentsStand : Program → Type 0
ExtentsStand program = (p : List ℤ) → IsInContext program p → HasExtents program p

-- At each p of the context all accesses of instances lie within their arrays.
abbrev pub AccessesStand : Program → Type 0
AccessesStand program = (p : List ℤ) → IsInContext program p → KeepsWithin program p

-- Nothing is wrong: no loop that is entered goes past 2^31, some p is in the context, and no array is left.
pub record StaysWithin (program : Program) : Type 0 where
  pub near : first_wide program ≡ None
  pub some : (p : List ℤ) × IsInContext program p
  pub extents : ExtentsStand program
  pub accesses : AccessesStand program

-- the first access outside, all extents being at least 1; it is of this array
pub record IsBoundsFault (program : Program) (array access : ℕ) (p : List ℤ) (here : Instance) : Type 0 where
  pub near : first_wide program ≡ None
  pub extents : ExtentsStand program
  pub first : IsFirstOutside program p here access
  pub of_array : array ≡ first.outside.element.0

-- What is wrong, in this order: ranges of iterators, context, extents, accesses.
abbrev pub IsMeaningFault : Program → MeaningFault → Type 0
IsMeaningFault program (IteratorRange statement loop) = first_wide program ≡ Some (statement, loop)
IsMeaningFault program Context = (first_wide program ≡ None) × ((p : List ℤ) → ¬ (IsInContext program p))
IsMeaningFault program (Extent array p) = (first_wide program ≡ None) × IsFirstNarrow program p array.0
IsMeaningFault program (Bounds array access p instance) = IsBoundsFault program array.0 access p instance

-- Why there is no answer, or which fault there is. Want of memory may come at any time.
abbrev pub HaltSays : Program → Halt → Type 0
HaltSays program (halt.Meaning fault) = IsMeaningFault program fault
HaltSays program halt.Budget = Unit {0}
HaltSays program halt.Memory = Unit {0}

-- a decision that stops
abbrev pub halt_of : Stop → Halt
halt_of stop.Budget = halt.Budget
halt_of stop.Memory = halt.Memory
