-- What a fault says of a program's runs, and what it says that there is none.
use Rattle.std.specs.Prelude.{◌≡◌, ℕ, ℤ, List, []}
use Rattle.affc_ast.specs.declared.tree.Instance.{Instance}
use Rattle.affc_ast.specs.declared.tree.Program.{Program}
use Rattle.affc_ast.specs.Cause.{Cause}
use Rattle.affc_ast.specs.Fits.{Fits}
use Rattle.affc_ast.specs.Meaning.{State, Ended, Stuck, meaning}
use Rattle.affc_ast.specs.Store.{Store}
use Rattle.affc_trace.specs.Laws.{IsInContext}
use Rattle.affc_domain.specs.Plain.{IsPlain}
use Rattle.affc_safe.specs.Safe.{IsSafe}
use Rattle.affc_nest.specs.Laws.{NamesArrays}
use Rattle.affc_bounds.specs.Faults.{StaysWithin, IsMeaningFault, HaltSays}
use Rattle.affc_bounds.specs.Spots.{IsNarrow, IsOutside}
use Rattle.affc_bounds.specs.declared.fault.Halt.TheVariants.{Meaning}
use Rattle.affc_bounds.specs.declared.fault.MeaningFault.{MeaningFault}

-- At p some store fits, and from each that does the program is stuck.
pub record IsStuckAt (program : Program) (p : List ℤ) : Type 0 where
  pub some : (store : Store) × Fits program p store
  pub stuck : (store : Store) → Fits program p store → (cause : Cause) × (steps : ℕ) × (meaning program p store ≡ Stuck cause steps)

-- A plain program is stuck at each p at which an extent is below 1, and at each at which an access lies outside.
abbrev pub NarrowIsStuck : Type 0
NarrowIsStuck = (program : Program) (p : List ℤ) (array : ℕ) → IsPlain program → IsNarrow program p array → IsStuckAt program p

abbrev pub OutsideIsStuck : Type 0
OutsideIsStuck = (program : Program) (p : List ℤ) (here : Instance) (access : ℕ) → IsPlain program → IsOutside program p here access → IsStuckAt program p

-- Where nothing is wrong with a program without temporaries, it is safe at each p of the context.
abbrev pub StayingIsSafe : Type 0
StayingIsSafe = (program : Program) (p : List ℤ) → StaysWithin program → NamesArrays program → program.temps ≡ [] → IsInContext program p → IsSafe program p

-- So its runs end for all data that fit.
abbrev pub StayingEnds : Type 0
StayingEnds = (program : Program) (p : List ℤ) (store : Store) → IsPlain program → StaysWithin program → NamesArrays program → program.temps ≡ [] → Fits program p store
    → (end : State) × (meaning program p store ≡ Ended end)

-- Nothing is wrong, or one thing.
abbrev pub FaultsDoNotStay : Type 0
FaultsDoNotStay = (program : Program) (fault : MeaningFault) → HaltSays program (Meaning fault) → ¬ (StaysWithin program)

abbrev pub OneFault : Type 0
OneFault = (program : Program) (fault other : MeaningFault) → IsMeaningFault program fault → IsMeaningFault program other → fault ≡ other
