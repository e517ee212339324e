-- When the stores of one program's run are those of another's, in another order and at other places.
use Rattle.std.specs.Prelude.{◌≡◌, ℕ, ℤ, List, [], ◌∷◌, map}
use Rattle.affc_ast.specs.declared.tree.Instance.{Instance}
use Rattle.affc_ast.specs.declared.tree.Program.{Program}
use Rattle.affc_ast.specs.Meaning.{State, Ended, meaning}
use Rattle.affc_ast.specs.Store.{Element, Store}
use Rattle.affc_ast.specs.Trace.{trace, store_of}

-- a store of a run, with the instance that it is by
pub record Stored : Type 0 where
  pub instance : Instance
  pub element : Element
  pub value : ℕ

-- the first instance with the first store, and so on
abbrev pub stores_by : List Instance → List (Element × ℕ) → List Stored
stores_by [] written = []
stores_by (x ∷ xs) [] = []
stores_by (x ∷ xs) (w ∷ ws) = record { instance = x; element = w.0; value = w.1 } ∷ stores_by xs ws

abbrev pub elements : List (Element × ℕ) → List Element
elements written = map (λ w. w.0) written

-- an order in which another run makes these stores
abbrev pub Order : Type 0
Order = List Stored → List Stored

-- the order in which the source makes them
abbrev pub in_source_order : Order
in_source_order stores = stores

-- where another run puts each element
abbrev pub Places : Type 0
Places = Element → Element

-- the place of an element of an array that isn't folded
abbrev pub own_place : Places
own_place x = x

abbrev pub put_at : Places → Stored → Element × ℕ
put_at place s = (place s.element, s.value)

-- `target` follows `source` with these values of the parameters and from this store: both runs end, the run of
-- `source` stores once for each instance of its trace, in this order and at the instance's own element, and the
-- run of `target` stores the same values, in the order that `ordered` puts them in, each at the place of its element.
pub record Follows (target source : Program) (ordered : Order) (place : Places) (p : List ℤ) (store : Store) : Type 0 where
  pub source_end : State
  pub source_ends : meaning source p store ≡ Ended source_end
  pub target_end : State
  pub target_ends : meaning target p store ≡ Ended target_end
  pub own_elements : elements source_end.written ≡ map (store_of source p) (trace source p)
  pub written : target_end.written ≡ map (put_at place) (ordered (stores_by (trace source p) source_end.written))
