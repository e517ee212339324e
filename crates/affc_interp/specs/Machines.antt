-- What the parts of a run answer and leave, by what a run with so many steps does.
use Rattle.std.specs.Prelude.{◌≡◌, ℕ, ◌+◌, ℤ, List, map, take, length, nat_lt, true, false, Result, Ok, Err}
use Rattle.affc_ast.specs.declared.tree.Stmt.{Stmt}
use Rattle.affc_ast.specs.Cause.{Cause}
use Rattle.affc_ast.specs.Meaning.{Position, with_iterator}
use Rattle.affc_ast.specs.Store.{Store}
use Rattle.affc_ast.specs.Values.{Scope}
use Rattle.affc_interp.specs.Budget.{Run, StuckBy, OutOfSteps, exec_of, all_of}
use Rattle.affc_interp.specs.Seen.{cause_at}
use Rattle.affc_interp.specs.declared.fault.Halt.{Halt}
use Rattle.affc_interp.specs.declared.fault.Halt.TheVariants as halt
use Rattle.affc_interp.specs.declared.machine.Machine.{Machine}

abbrev pub scope_of : Machine → Scope
scope_of m = record { names = m.names.items; iterators = m.here.iterators; extents = m.memory.extents }

abbrev pub position : (node statement : ℕ) → Position
position node statement = record { node = node; statement = statement }

-- it stops as this fault says, at the instance that was begun last. Want of memory comes at any time.
abbrev pub Halts : Machine → Halt → Run → Type 0
Halts m (halt.Fault f) r = r ≡ Err (StuckBy (cause_at m.here f))
Halts m halt.Steps r = r ≡ Err OutOfSteps
Halts m halt.Memory r = Unit {0}

-- it ends in this machine, whose names are what they were, or stops in it
abbrev pub Finishes : Result (Unit {0}) Halt → Machine → Machine → Run → Type 0
Finishes (Ok u) old new r = (r ≡ Ok (new.memory.store, new.steps)) × (scope_of new ≡ scope_of old) × (new.limit ≡ old.limit)
Finishes (Err h) old new r = Halts new h r

-- one more step was begun, or there was none left
abbrev pub Steps : Result ℕ Halt → (steps limit : ℕ) → Type 0
Steps (Ok n) steps limit = (nat_lt steps limit ≡ true) × (n ≡ steps + 1)
Steps (Err h) steps limit = (nat_lt steps limit ≡ false) × (h ≡ halt.Steps)

-- the locals' values stand behind the names that were there, or the cause
abbrev pub Declares : Result (Unit {0}) Halt → Machine → Machine → Result Scope Cause → Type 0
Declares (Ok u) old new r = (r ≡ Ok (scope_of new)) × (take (length old.names.items) new.names.items ≡ old.names.items) × (new.here ≡ old.here) × (new.memory ≡ old.memory) × (new.steps ≡ old.steps) × (new.limit ≡ old.limit)
Declares (Err (halt.Fault f)) old new r = r ≡ Err (cause_at new.here f)
Declares (Err halt.Steps) old new r = ⊥
Declares (Err halt.Memory) old new r = Unit {0}

-- a turn of a loop with this body
abbrev pub turn_of : (limit : ℕ) → List Stmt → (node statement : ℕ) → Scope → ℤ → Store → ℕ → Run
turn_of limit body node statement scope x = all_of limit (map exec_of body) (position node statement) (with_iterator scope x)
