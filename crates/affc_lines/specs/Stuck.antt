-- The line that says why a run is stuck.
use Rattle.std.specs.Prelude.{◌≡◌, ℕ, ℤ, List, [], ◌∷◌, ◌++◌, map, get_or, slice_get, Option, None, Some, codes, decimal}
use Rattle.std.specs.Fmt.{signed_decimal}
use Rattle.affc_ast.specs.declared.tree.Decl.{Decl}
use Rattle.affc_ast.specs.declared.tree.Instance.{Instance}
use Rattle.affc_ast.specs.declared.tree.Op.{Op}
use Rattle.affc_ast.specs.declared.tree.Param.{Param}
use Rattle.affc_ast.specs.declared.tree.Param.TheVariants.{Number, Array}
use Rattle.affc_ast.specs.declared.tree.Program.{Program}
use Rattle.affc_ast.specs.declared.tree.Val.{Val}
use Rattle.affc_ast.specs.declared.tree.Val.TheOpen.{Val-F, Load, Const, Cast, Not, Bin, Shift}
use Rattle.affc_ast.specs.Cause.{Cause, Extent, Overflow, OutOfBounds, Unwritten}
use Rattle.affc_ast.specs.Meaning.{arrays_of}
use Rattle.affc_ast.specs.Recursion.{by_val}
use Rattle.affc_ast.specs.Store.{Element}
use Rattle.affc_ast.specs.Trace.{Assignment, assignments, events}

-- ---- The array that is meant

abbrev pub name_of : Option Decl → List ℕ
name_of None = []
name_of (Some d) = d.name

-- the name of the array of this number: the array parameters stand first, and then the temporaries
abbrev pub array_name : Program → (array : ℕ) → List ℕ
array_name program array = name_of (slice_get (arrays_of program.params ++ program.temps) array)

abbrev pub loaded_step : Val-F (List ℕ) → List ℕ
loaded_step (Load array subs) = array.0 ∷ []
loaded_step (Const n) = []
loaded_step (Cast e) = []
loaded_step (Not a) = a
loaded_step (Bin op a b) = a ++ b
loaded_step (Shift left a by) = a

-- the arrays that a value loads from, in the order of the text
abbrev pub arrays_loaded : Val → List ℕ
arrays_loaded = by_val loaded_step

abbrev pub own_array : Option Op → (array : ℕ) → List ℕ
own_array None array = []
own_array (Some op) array = array ∷ []

-- the array of each access of an assignment: of its own element's load, where it is an `op=`, of the loads of its value, and of its store
abbrev pub arrays_accessed : Assignment → List ℕ
arrays_accessed a = own_array a.op a.array.0 ++ arrays_loaded a.value ++ a.array.0 ∷ []

-- the array of an access of this number in the statement of this number
abbrev pub array_of : Program → (statement access : ℕ) → ℕ
array_of program statement access = get_or (get_or (map arrays_accessed (assignments program)) statement []) access 0

-- the array of an access is that of the element which the instance touches then, as its events say
abbrev pub ArraysAreTouched : Type 0
ArraysAreTouched = (program : Program) → (p : List ℤ) → (here : Instance) → (access : ℕ)
    → array_of program here.statement access ≡ get_or (map (λ (e : Element). e.0) (events program p here)) access 0

-- ---- Its words

-- the number parameters with their values, each behind `before` or a space: ` at N=1 M=2`
abbrev pub numbers_text : (before : List ℕ) → List Param → (p : List ℤ) → List ℕ
numbers_text before (Number name low high ∷ ps) (z ∷ zs) = before ++ name ++ codes "=" ++ signed_decimal z ++ numbers_text (codes " ") ps zs
numbers_text before (Array d ∷ ps) zs = numbers_text before ps zs
numbers_text before _ _ = []

-- an array and the numbers: `t at N=1 M=2`, or `t` where there are none
abbrev pub array_text : Program → (p : List ℤ) → (array : ℕ) → List ℕ
array_text program p array = array_name program array ++ numbers_text (codes " at ") program.params p

-- the first number behind `before`, the others behind a comma: `1, 2`
abbrev pub iterators_text : (before : List ℕ) → List ℤ → List ℕ
iterators_text before [] = []
iterators_text before (x ∷ xs) = before ++ signed_decimal x ++ iterators_text (codes ", ") xs

-- `S0(1, 2)`
abbrev pub instance_text : Instance → List ℕ
instance_text here = codes "S" ++ decimal here.statement ++ codes "(" ++ iterators_text [] here.iterators ++ codes ")"

-- `t at N=1 in S0(1, 2) access 0`
abbrev pub access_text : Program → (p : List ℤ) → Instance → (access : ℕ) → List ℕ
access_text program p here access =
    array_text program p (array_of program here.statement access) ++ codes " in " ++ instance_text here ++ codes " access " ++ decimal access

-- what is said of a run with these numbers that is stuck for this cause
abbrev pub stuck_line : Program → (p : List ℤ) → Cause → List ℕ
stuck_line program p (Extent array) = codes "affc: extent of " ++ array_text program p array
stuck_line program p (OutOfBounds here access) = codes "affc: bounds of " ++ access_text program p here access
stuck_line program p (Unwritten here access) = codes "affc: unwritten " ++ access_text program p here access
stuck_line program p (Overflow node) = codes "affc: overflow at node " ++ decimal node
