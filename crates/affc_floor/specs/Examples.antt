-- What the definitions give at small programs. Each value was found by hand from the rules.
use Rattle.std.specs.Prelude.{◌≡◌, ℕ, ℤ, pos, List, [], ◌∷◌, Option, Some, None}
use Rattle.affc_ast.specs.declared.tree.Instance.{Instance}
use Rattle.affc_ast.specs.declared.tree.Ix.{Ix}
use Rattle.affc_ast.specs.declared.tree.Ix.TheVariants.{Lit, Name, Add}
use Rattle.affc_ast.specs.declared.tree.Op.TheVariants as op
use Rattle.affc_ast.specs.declared.tree.Program.{Program}
use Rattle.affc_ast.specs.declared.tree.Rel.TheVariants.{Less}
use Rattle.affc_ast.specs.declared.tree.Role.TheVariants.{Temp}
use Rattle.affc_ast.specs.declared.tree.Stmt.{Stmt}
use Rattle.affc_ast.specs.declared.tree.Stmt.TheVariants.{For, Assign}
use Rattle.affc_ast.specs.declared.tree.Val.{Val}
use Rattle.affc_ast.specs.declared.tree.Val.TheVariants.{Load, Const, Bin}
use Rattle.affc_ast.specs.Cause.{Cause, OutOfBounds, Unwritten}
use Rattle.affc_ast.specs.Trace.{trace}
use Rattle.affc_trace.specs.Effects.{effect}
use Rattle.affc_trace.specs.Examples.{blur, together, two}
use Rattle.affc_trace.specs.declared.schedule.Schedule.TheVariants.{Source}
use Rattle.affc_domain.specs.Arrays.{declared_arrays, extents_at}
use Rattle.affc_safe.specs.Examples.{at, with_another, with_plane, storing_past, loading_before, storing_late, adding_to}
use Rattle.affc_floor.specs.Faults.{first_fault, first_low}
use Rattle.affc_floor.specs.FaultLaws.{is_handed_in}
use Rattle.affc_floor.specs.Live.{live_elements}
use Rattle.affc_floor.specs.declared.span.Span.{Span}
use Rattle.affc_floor.specs.Spans.{open_at}

abbrev instance : (statement i : ℕ) → Instance
instance statement i = record { statement = statement; iterators = pos i ∷ [] }

abbrev spot : ℕ → List ℤ
spot n = pos n ∷ []

-- ---- Live elements

-- The blur at N = 2, at the times i and i + 2: t[0] is loaded by S1(0), t[1] by S1(0) and S1(1), t[2] by both, t[3] by S1(1).
-- At S0(2) three are live, each by the loads that come after it, in the order of the loads. At S1(0) the value of t[0] has had its last load.
abbrev pub BlurIsLive : Type 0
BlurIsLive =
    (live_elements blur together 2 two (instance 0 0) ≡ spot 0 ∷ [])
    × (live_elements blur together 2 two (instance 0 1) ≡ spot 0 ∷ spot 1 ∷ spot 1 ∷ [])
    × (live_elements blur together 2 two (instance 0 2) ≡ spot 0 ∷ spot 1 ∷ spot 2 ∷ spot 1 ∷ spot 2 ∷ [])
    × (live_elements blur together 2 two (instance 1 0) ≡ spot 1 ∷ spot 2 ∷ [])
    × (live_elements blur together 2 two (instance 1 1) ≡ [])

-- In the order of the text all four are live when the last is stored.
abbrev pub SourceOrderIsLive : Type 0
SourceOrderIsLive = live_elements blur Source 2 two (instance 0 3) ≡ spot 0 ∷ spot 1 ∷ spot 2 ∷ spot 1 ∷ spot 2 ∷ spot 3 ∷ []

abbrev four : List ℤ
four = pos 4 ∷ []

-- At N = 4 three are live first at S0(2), and three again at S0(3).
abbrev pub ThreeAtFour : Type 0
ThreeAtFour =
    (live_elements blur together 2 four (instance 0 2) ≡ spot 0 ∷ spot 1 ∷ spot 2 ∷ spot 1 ∷ spot 2 ∷ spot 2 ∷ [])
    × (live_elements blur together 2 four (instance 0 3) ≡ spot 1 ∷ spot 2 ∷ spot 3 ∷ spot 2 ∷ spot 3 ∷ spot 3 ∷ [])

-- Elements of in are handed in: no load of them has a source, so none is ever live.
abbrev pub InputIsNotLive : Type 0
InputIsNotLive = live_elements blur Source 0 two (instance 0 1) ≡ []

-- ---- Under schedules that aren't legal

abbrev lit : ℕ → Ix
lit n = Lit (pos n)

abbrev n : Ix
n = Name (record { 0 = 0 })

abbrev i : Ix
i = Name (record { 0 = 1 })

abbrev store : (array : ℕ) → (subscript : Ix) → Val → Stmt
store array subscript value = Assign None (record { 0 = array }) (subscript ∷ []) value

abbrev loaded : (array : ℕ) → (subscript : Ix) → Val
loaded array subscript = Load (record { 0 = array }) (subscript ∷ [])

-- the two statements in one loop, for i from 0 to N - 1
abbrev in_turn : Stmt → Stmt → Program
in_turn s0 s1 = record blur { body = For [] (lit 0) Less n (s0 ∷ s1 ∷ []) ∷ [] }

-- t[0] = in[i] and out[i] = t[0]. At the times i and i + 2 both values of t[0] are still to be loaded at S0(1), and they are one
-- element; at S1(0) it is the second, which S0(1) has stored.
abbrev reused : Program
reused = in_turn (store 2 (lit 0) (loaded 0 i)) (store 1 i (loaded 2 (lit 0)))

abbrev pub TwoValuesOfOne : Type 0
TwoValuesOfOne =
    (live_elements reused together 2 two (instance 0 0) ≡ spot 0 ∷ [])
    × (live_elements reused together 2 two (instance 0 1) ≡ spot 0 ∷ spot 0 ∷ [])
    × (live_elements reused together 2 two (instance 1 0) ≡ spot 0 ∷ [])
    × (live_elements reused together 2 two (instance 1 1) ≡ [])

-- out[i] = t[i] and t[i + 1] = in[i]. At these times S0(1) loads t[1] before S1(0) stores it, and keeps nothing live.
abbrev turned_round : Program
turned_round = in_turn (store 1 i (loaded 2 i)) (store 2 (Add i (lit 1)) (loaded 0 i))

abbrev pub LoadedBeforeStored : Type 0
LoadedBeforeStored =
    (live_elements turned_round together 2 two (instance 0 1) ≡ [])
    × (live_elements turned_round together 2 two (instance 1 0) ≡ [])
    × (live_elements turned_round Source 2 two (instance 1 0) ≡ spot 1 ∷ [])

-- ---- The first event that is wrong

abbrev fault_at : Program → (p : List ℤ) → Option Cause
fault_at program p = first_fault (extents_at (declared_arrays program) p) (effect program p) (is_handed_in program) (trace program p)

-- None in the blur. A store past the end, and a load before the beginning. A load of what is stored later, and one by `+=` of what
-- nothing has stored, or of what is handed in.
abbrev pub FirstFaults : Type 0
FirstFaults =
    (fault_at blur two ≡ None)
    × (fault_at storing_past two ≡ Some (OutOfBounds (instance 0 2) 0))
    × (fault_at loading_before two ≡ Some (OutOfBounds (instance 0 0) 0))
    × (fault_at storing_late two ≡ Some (Unwritten (instance 0 0) 0))
    × (fault_at (adding_to 2) two ≡ Some (Unwritten (instance 0 0) 0))
    × (fault_at (adding_to 1) two ≡ None)

-- for i from 0 to N - 1 { array[subscript] = value; }, where t has one element
abbrev once : (array : ℕ) → (subscript : Ix) → Val → Program
once array subscript value =
    record blur { temps = record { name = []; role = Temp; extents = lit 1 ∷ [] } ∷ []; body = For [] (lit 0) Less n (store array subscript value ∷ []) ∷ [] }

-- Loads come first, in order, and then the store, whose number is that of the loads. What lies outside isn't asked for a value.
abbrev pub EventsInOrder : Type 0
EventsInOrder =
    (fault_at (once 1 n (loaded 2 (lit 0))) two ≡ Some (Unwritten (instance 0 0) 0))
    × (fault_at (once 1 n (loaded 0 i)) two ≡ Some (OutOfBounds (instance 0 0) 1))
    × (fault_at (once 1 i (Bin op.Add (loaded 0 i) (loaded 2 (lit 0)))) two ≡ Some (Unwritten (instance 0 0) 1))
    × (fault_at (once 1 i (Bin op.Add (loaded 0 i) (loaded 2 (lit 1)))) two ≡ Some (OutOfBounds (instance 0 0) 1))
    × (fault_at (once 2 i (Const 1)) two ≡ Some (OutOfBounds (instance 0 1) 0))

-- The first array with an extent below 1: out at N = 0, a second temporary of N - 2 elements or of N by N - 2 at N = 2, none at N = 1
-- where out has one element.
abbrev pub FirstLows : Type 0
FirstLows =
    (first_low 0 (declared_arrays blur) (at 0) ≡ Some 1)
    × (first_low 0 (declared_arrays with_another) two ≡ Some 3)
    × (first_low 0 (declared_arrays with_plane) two ≡ Some 3)
    × (first_low 0 (declared_arrays blur) (at 1) ≡ None)

-- ---- Spans

abbrev three_spans : List Span
three_spans = record { from = 0; until = 2 } ∷ record { from = 1; until = 3 } ∷ record { from = 2; until = 3 } ∷ []

-- A span isn't open at its end.
abbrev pub SpansAreOpen : Type 0
SpansAreOpen =
    (open_at 0 three_spans ≡ 1)
    × (open_at 1 three_spans ≡ 2)
    × (open_at 2 three_spans ≡ 2)
    × (open_at 3 three_spans ≡ 0)
