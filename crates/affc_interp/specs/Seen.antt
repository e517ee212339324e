-- What the parts of the interpreter answer, as the definitions say it.
use Rattle.std.specs.Prelude.{◌≡◌, ℕ, ℤ, List, Option, Some, None, Result, Ok, Err}
use Rattle.affc_ast.specs.declared.tree.Instance.{Instance}
use Rattle.affc_ast.specs.Cause.{Cause, Extent, OutOfBounds, Unwritten, Overflow, ◌>>=◌}
use Rattle.affc_ast.specs.Store.{Element}
use Rattle.affc_ast.specs.Values.{Scope, Sight, held}
use Rattle.affc_interp.specs.declared.fault.Fault.{Fault}
use Rattle.affc_interp.specs.declared.fault.Fault.TheVariants as f
use Rattle.affc_interp.specs.Layout.{Held, cell_at, offset_of}
use Rattle.affc_interp.specs.declared.memory.Buffer.{Buffer}

-- a reading of index expressions; its fault is the number of the node that overflows
abbrev pub as_reading : {A : Type 0} → Result A ℕ → Result A Cause
as_reading (Ok x) = Ok x
as_reading (Err node) = Err (Overflow node)

-- reads first the one and then, with what it gave, the other
abbrev pub read_then : {A B : Type 0} → Result A Cause → (A → Result B Cause) → Result B Cause
read_then r next = r >>= next

-- a reading of values at an instance
abbrev pub cause_at : Instance → Fault → Cause
cause_at here (f.Extent array) = Extent array
cause_at here (f.OutOfBounds access) = OutOfBounds here access
cause_at here (f.Unwritten access) = Unwritten here access
cause_at here (f.Overflow node) = Overflow node

abbrev pub as_value : {A : Type 0} → Instance → Result A Fault → Result A Cause
as_value here (Ok x) = Ok x
as_value here (Err fault) = Err (cause_at here fault)

-- what is loaded from the cell at this place of an array
abbrev pub loaded : List Buffer → (array : ℕ) → (place : Option ℕ) → Instance → (access : ℕ) → Result ℕ Cause
loaded bs array None here access = Err (OutOfBounds here access)
loaded bs array (Some k) here access = held here access (cell_at bs array k)

-- what is seen at an instance where the names have these values
abbrev pub scope_at : List ℤ → Held → Instance → Scope
scope_at names held here = record { names = names; iterators = here.iterators; extents = held.extents }

abbrev pub sight_at : (node access : ℕ) → List ℤ → Held → Instance → Sight
sight_at node access names held here =
    record { node = node; access = access; scope = scope_at names held here; store = held.store; here = here }

-- the place of an element that lies within its array, or the cause
abbrev pub Reaches : Result ℕ Fault → Instance → Option ℕ → Element → Result Element Cause → Type 0
Reaches (Ok k) here place x r = (place ≡ Some k) × (r ≡ Ok x)
Reaches (Err fault) here place x r = r ≡ Err (cause_at here fault)

-- the place and the value that are stored, or the cause
abbrev pub Stores : Result (ℕ × ℕ) Fault → Instance → Held → (array : ℕ) → Result (Element × ℕ) Cause → Type 0
Stores (Ok s) here held array r = (xs : List ℤ) × (Some s.0 ≡ offset_of held.extents array xs) × (r ≡ Ok ((array, xs), s.1))
Stores (Err fault) here held array r = r ≡ Err (cause_at here fault)
