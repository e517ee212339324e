-- How a run begins, and what it answers.
use Rattle.std.specs.Prelude.{◌≡◌, ℕ, ◌++◌, ℤ, List, [], length, Option, Some, None, MatchOption, Result, Ok, Err}
use Rattle.affc_ast.specs.declared.tree.Instance.{Instance}
use Rattle.affc_ast.specs.declared.tree.Program.{Program}
use Rattle.affc_ast.specs.Cause.{Extent, Overflow, OutOfBounds, Unwritten}
use Rattle.affc_ast.specs.Meaning.{arrays_of, all_extents}
use Rattle.affc_ast.specs.Counted.{temps_node, body_node}
use Rattle.affc_ast.specs.Store.{Store}
use Rattle.affc_interp.specs.declared.fault.Halt.{Halt}
use Rattle.affc_interp.specs.declared.fault.Halt.TheVariants as halt
use Rattle.affc_interp.specs.declared.machine.Machine.{Machine}
use Rattle.affc_interp.specs.declared.run.RunFault.{RunFault}
use Rattle.affc_interp.specs.declared.run.RunFault.TheVariants as fault
use Rattle.affc_interp.specs.Budget.{Run, Stop, StuckBy, OutOfSteps, stuck_or}
use Rattle.affc_interp.specs.Layout.{start_of}
use Rattle.affc_interp.specs.Machines.{scope_of}
use Rattle.affc_interp.specs.Seen.{cause_at}

-- what a fault says; want of memory says nothing
abbrev pub stop_of : RunFault → Option Stop
stop_of (fault.OutOfBounds here access) = Some (StuckBy (OutOfBounds here access))
stop_of (fault.Unwritten here access) = Some (StuckBy (Unwritten here access))
stop_of (fault.Overflow node) = Some (StuckBy (Overflow node))
stop_of (fault.Extent array) = Some (StuckBy (Extent array))
stop_of fault.Steps = Some OutOfSteps
stop_of fault.Memory = None

-- the store where the run ends, else why it stops
abbrev pub Answers : Result Store RunFault → Run → Type 0
Answers (Ok store) r = (steps : ℕ) × (r ≡ Ok (store, steps))
Answers (Err f) r = MatchOption (stop_of f) (Unit {0}) (λ stop. r ≡ Err stop)

abbrev pub halt_of : Instance → Halt → Option Stop
halt_of here (halt.Fault f) = Some (StuckBy (cause_at here f))
halt_of here halt.Steps = Some OutOfSteps
halt_of here halt.Memory = None

-- the fault that the machine's stop is, at this instance
abbrev pub SaysSo : Halt → Instance → RunFault → Type 0
SaysSo h here f = stop_of f ≡ halt_of here h

-- the run of the body, once all extents are read
abbrev pub with_extents : Program → List ℤ → (List (List ℤ) → List (List ℤ) → Run) → Run
with_extents program p body =
    stuck_or (all_extents 0 (arrays_of program.params) 0 p) (λ given.
    stuck_or (all_extents (length (arrays_of program.params)) program.temps (temps_node program) p) (λ own. body given own))

-- a machine with all extents and the values that are given, or the reason why there is none
abbrev pub Begins : Result (Machine × ℕ) Halt → Program → (p : List ℤ) → (values : List (List ℕ)) → (limit : ℕ) → Type 0
Begins (Ok m) program p values limit =
    (given : List (List ℤ)) × (own : List (List ℤ)) × (all_extents 0 (arrays_of program.params) 0 p ≡ Ok given) × (all_extents (length (arrays_of program.params)) program.temps (temps_node program) p ≡ Ok own)
    × (scope_of m.0 ≡ record { names = p; iterators = []; extents = given ++ own }) × (m.0.memory.store ≡ start_of 0 given values) × (m.0.steps ≡ 0) × (m.0.limit ≡ limit) × (m.1 ≡ body_node program)
Begins (Err (halt.Fault f)) program p values limit = (here : Instance) (body : List (List ℤ) → List (List ℤ) → Run) → with_extents program p body ≡ Err (StuckBy (cause_at here f))
Begins (Err halt.Steps) program p values limit = ⊥
Begins (Err halt.Memory) program p values limit = Unit {0}
