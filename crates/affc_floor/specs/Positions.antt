-- The stores into an array by their positions in the target, and how long their values are wanted.
use Rattle.std.specs.Prelude.{◌≡◌, ◌≢◌, ◌⊎◌, ℕ, ◌≤◌, ℤ, pos, List, ◌∷◌, length, Option, Some, None, slice_get}
use Rattle.affc_ast.specs.declared.tree.Instance.{Instance}
use Rattle.affc_ast.specs.declared.tree.Program.{Program}
use Rattle.affc_ast.specs.Store.{Element}
use Rattle.affc_trace.specs.declared.schedule.Schedule.{Schedule}
use Rattle.affc_trace.specs.Dataflow.{IsSource}
use Rattle.affc_trace.specs.Effects.{effect}
use Rattle.affc_trace.specs.Law.{IsIn}
use Rattle.affc_trace.specs.Orders.{AreDistinct}
use Rattle.affc_trace.specs.Target.{target}
use Rattle.affc_floor.specs.declared.life.Stored.{Stored}

-- an element as one list: its array's number, and then its subscripts
abbrev pub spot : Element → List ℤ
spot x = pos x.0 ∷ x.1

-- b loads the value that a stores into x
pub record IsLoadOf (program : Program) (array : ℕ) (p : List ℤ) (a b : Instance) (x : List ℤ) : Type 0 where
  pub loads : IsIn (array, x) (effect program p b).loads
  pub source : IsSource program p b (array, x) (Some a)

module _ (program : Program) (schedule : Schedule) (array : ℕ) (p : List ℤ) (elements : List (List ℤ)) where
  -- a stores into the element of this slot, and the last load of its value stands at this position
  pub record IsStoreOf (a : Instance) (s : Stored) : Type 0 where
    pub element : List ℤ
    pub its_slot : slice_get elements s.slot ≡ Some (spot (array, element))
    pub stores : (array, element) ≡ (effect program p a).stores
    pub most : (b : Instance) (k : ℕ) → IsLoadOf program array p a b element → slice_get (target program schedule p) k ≡ Some b → k ≤ s.until
    pub attained : (s.until ≡ 0) ⊎ ((b : Instance) × IsLoadOf program array p a b element × (slice_get (target program schedule p) s.until ≡ Some b))

  abbrev pub IsEntry : Instance → Option Stored → Type 0
  IsEntry a None = (effect program p a).stores.0 ≢ array
  IsEntry a (Some s) = IsStoreOf a s

  -- One entry for each instance of the target; the elements, of any arrays, are different.
  pub record AreStores (stores : List (Option Stored)) : Type 0 where
    pub different : AreDistinct elements
    pub long : length stores ≡ length (target program schedule p)
    pub each : (k : ℕ) (a : Instance) (s : Option Stored) → slice_get (target program schedule p) k ≡ Some a → slice_get stores k ≡ Some s → IsEntry a s
