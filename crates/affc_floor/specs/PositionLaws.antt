-- What positions in the target say of live elements.
use Rattle.std.specs.Prelude.{◌≡◌, ◌↔◌, ℕ, ℤ, List, map, Option, Some, slice_get, None, []}
use Rattle.affc_ast.specs.declared.tree.Instance.{Instance}
use Rattle.affc_ast.specs.declared.tree.Program.{Program}
use Rattle.affc_trace.specs.declared.schedule.Schedule.{Schedule}
use Rattle.affc_trace.specs.Law.{IsIn}
use Rattle.affc_ast.specs.Trace.{trace}
use Rattle.affc_trace.specs.Orders.{Earlier, AreDistinct}
use Rattle.affc_trace.specs.Target.{target}
use Rattle.affc_floor.specs.Live.{LiveAt, AreInOrder, IsFloor}
use Rattle.affc_floor.specs.declared.life.Stored.{Stored}
use Rattle.affc_floor.specs.declared.life.Life.{Life}
use Rattle.affc_floor.specs.Lives.{IsWanted, HasOpen, AreLives}
use Rattle.affc_floor.specs.declared.span.Most.{Most}
use Rattle.affc_floor.specs.Spans.{IsGreatest, IsMost}
use Rattle.affc_floor.specs.Positions.{spot, AreStores}

-- An element is live at the instance of a position exactly where its slot is wanted there.
abbrev pub WantedIsLive : Type 0
WantedIsLive = (program : Program) (schedule : Schedule) (array : ℕ) (p : List ℤ) (elements : List (List ℤ)) (stores : List (Option Stored)) (i : ℕ) (at : Instance) (slot : ℕ) (x : List ℤ)
    → AreStores program schedule array p elements stores
    → slice_get (target program schedule p) i ≡ Some at → slice_get elements slot ≡ Some (spot (array, x))
    → LiveAt program schedule array p at x ↔ IsWanted stores i slot

-- Where spans are those in which these slots are live, the first position at which most are open is that of the greatest live set:
-- the elements, in order, of the slots that have a span open there.
abbrev pub GreatestOpenIsFloor : Type 0
GreatestOpenIsFloor = (program : Program) (schedule : Schedule) (array : ℕ) (p : List ℤ) (elements : List (List ℤ)) (stores : List (Option Stored)) (found : List Life) (m : Most) (at : Instance) (xs : List (List ℤ))
    → AreStores program schedule array p elements stores → AreLives stores found
    → IsGreatest (map (λ (l : Life). l.span) found) m → slice_get (target program schedule p) m.at ≡ Some at
    → AreInOrder xs → ((x : List ℤ) → IsIn x xs ↔ ((slot : ℕ) × (slice_get elements slot ≡ Some (spot (array, x))) × HasOpen found m.at slot))
    → IsFloor program schedule array p (Some at) xs

-- Where no span is ever open, nothing is ever live.
abbrev pub NoneOpenIsNone : Type 0
NoneOpenIsNone = (program : Program) (schedule : Schedule) (array : ℕ) (p : List ℤ) (elements : List (List ℤ)) (stores : List (Option Stored)) (found : List Life)
    → AreStores program schedule array p elements stores → AreLives stores found
    → IsMost (map (λ (l : Life). l.span) found) None → IsFloor program schedule array p None []

-- A list of the trace's instances, each once, of which each stands before another only where it does in the target, is the target.
abbrev pub OrderIsTarget : Type 0
OrderIsTarget = (program : Program) (schedule : Schedule) (p : List ℤ) (order : List Instance)
    → AreDistinct order → ((b : Instance) → IsIn b order ↔ IsIn b (trace program p))
    → ((a b : Instance) → Earlier order a b → Earlier (target program schedule p) a b)
    → order ≡ target program schedule p
