-- The stores that a load can see, and the latest of them.
use Rattle.std.specs.Prelude.{◌≡◌, ◌⊎◌, ℕ, ◌^◌, ◌≤◌, ℤ, unsigned_abs, List, ◌++◌, map, take, drop, length, IsTrue, Option, Some, None, slice_get}
use Rattle.std.specs.List.{All}
use Rattle.affc_rows.specs.Forms.{Affine}
use Rattle.affc_system.specs.Boxes.{InBox, pin}
use Rattle.affc_system.specs.Systems.{Rows, IsPoint}
use Rattle.affc_ast.specs.declared.tree.Instance.{Instance}
use Rattle.affc_ast.specs.declared.tree.Program.{Program}
use Rattle.affc_ast.specs.Store.{Element}
use Rattle.affc_ast.specs.Trace.{trace, store_of}
use Rattle.affc_trace.specs.Dataflow.{IsSource}
use Rattle.affc_trace.specs.Law.{IsIn}
use Rattle.affc_trace.specs.Orders.{Earlier}
use Rattle.affc_nest.specs.declared.nest.Access.{Access}
use Rattle.affc_nest.specs.declared.nest.Entry.{Entry}
use Rattle.affc_nest.specs.declared.nest.Nest.{Nest}
use Rattle.affc_nest.specs.Parts.{coordinates}
use Rattle.affc_nest.specs.Laws.{HasNest, NamesArrays, element_at}
use Rattle.affc_nest.specs.Nests.{nest_of}
use Rattle.affc_order.specs.Systems.{pair_columns}
use Rattle.affc_sched.specs.Touched.{IsTouched}
use Rattle.affc_sched.specs.Questions.{of_first, of_second, equal_rows}
use Rattle.affc_quast.specs.Paths.{IsNear}
use Rattle.affc_quast.specs.Sources.{loads_in}
use Rattle.affc_latest.specs.Latest.{IsLatest}
use Rattle.affc_flow.specs.Laws.{Loads}
use Rattle.affc_latest.specs.Opposites.{IsGreatestPoint}
use Rattle.affc_flow.specs.Writers.{Writes}

-- an instance of the part v that stores x before b
pub record StoresBefore (program : Program) (p : List ℤ) (b : Instance) (x : Element) (v : Entry) (w : Instance) : Type 0 where
  pub statement : w.statement ≡ v.part
  pub runs : IsIn w (trace program p)
  pub stores : x ≡ store_of program p w
  pub earlier : Earlier (trace program p) w b

-- an instance of one of these parts that does
abbrev pub StoredIn : Program → (p : List ℤ) → (b : Instance) → (x : Element) → List Entry → Instance → Type 0
StoredIn program p b x entries w = (v : Entry) × IsIn v entries × StoresBefore program p b x v w

-- ---- As systems

module _ (nest : Nest) (v e : Entry) (y x : Access) where
  -- over the parameters, the iterators of v and those of e: an instance of v, whose store y is of what the load x of e reads
  abbrev pub store_rows : List Affine
  store_rows = map (of_first nest v e) v.domain.rows ++ equal_rows (map (of_first nest v e) y.subs) (map (of_second nest v e) x.subs)

  -- and by a system of the order it is earlier
  abbrev pub store_system : Rows → Rows
  store_system order = record { columns = pair_columns nest v.part e.part; rows = store_rows ++ order.rows }

-- the parameters and the last iterators have these values, and the iterators between them these ranges
abbrev pub beside_box : (p : List ℤ) → List (ℤ × ℤ) → (its : List ℤ) → List (ℤ × ℤ)
beside_box p ranges its = map pin p ++ (ranges ++ map pin its)

-- the instance whose coordinates stand behind the parameters
abbrev pub instance_in : (part params own : ℕ) → (point : List ℤ) → Instance
instance_in part params own point = record { statement = part; iterators = take own (drop params point) }

-- the instance at the greatest point, or that there is no point
abbrev pub IsLastIn : Rows → List (ℤ × ℤ) → (part params own : ℕ) → Option Instance → Type 0
IsLastIn system ranges part params own None = (x : List ℤ) → InBox ranges x → IsPoint system x → ⊥
IsLastIn system ranges part params own (Some w) = (point : List ℤ) × IsGreatestPoint system ranges point × (w ≡ instance_in part params own point)

-- ---- Two parts at a load

-- the nest of a program whose accesses name arrays
pub record IsNamedNest (nest : Nest) : Type 0 where
  pub program : Program
  pub has : HasNest program
  pub is : nest ≡ nest_of program
  pub named : NamesArrays program

-- a load of a part that can have instances, and values of the parameters and of the part's coordinates
pub record IsReading (nest : Nest) (e : Entry) (x : Access) (p its : List ℤ) : Type 0 where
  pub nested : IsNamedNest nest
  pub touched : IsTouched nest e x
  pub params : length p ≡ length nest.params
  pub loops : length its ≡ coordinates e
  pub params_near : All IsNear p
  pub loops_near : All IsNear its

-- the rows of a part that stores the array beside the load, and the ranges there
pub record AreBeside (nest : Nest) (v e : Entry) (y x : Access) (p its : List ℤ) (pair : Rows) (ranges : List (ℤ × ℤ)) : Type 0 where
  pub reading : IsReading nest e x p its
  pub writes : Writes nest x.array.0 v y
  pub rows : pair ≡ record { columns = pair_columns nest v.part e.part; rows = store_rows nest v e y x }
  pub few : length pair.rows ≤ 900
  pub ranges_are : ranges ≡ beside_box p v.ranges its

-- an instance of v at a point of the system of its stores
pub record IsStoreBy (nest : Nest) (program : Program) (p its : List ℤ) (v e : Entry) (y x : Access) (order : Rows) (w : Instance) : Type 0 where
  pub statement : w.statement ≡ v.part
  pub long : length w.iterators ≡ coordinates v
  pub runs : IsIn w (trace program p)
  pub point : IsPoint (store_system nest v e y x order) (p ++ (w.iterators ++ its))

abbrev pub StoresBy : Nest → Program → (p its : List ℤ) → (v e : Entry) → (y x : Access) → List Rows → Instance → Type 0
StoresBy nest program p its v e y x orders w = (order : Rows) × IsIn order orders × IsStoreBy nest program p its v e y x order w

-- ---- The latest

-- the latest instance of v that is a point by one of these systems of the order
abbrev pub IsLatestBy : Nest → (v e : Entry) → (y x : Access) → (p its : List ℤ) → List Rows → Option Instance → Type 0
IsLatestBy nest v e y x p its orders found =
    (program : Program) → nest ≡ nest_of program → Loads program p its e x → IsLatest (trace program p) (StoresBy nest program p its v e y x orders) found

-- the latest instance of these parts that stores before the load what it reads
abbrev pub IsLatestAmong : Nest → (e : Entry) → (x : Access) → (p its : List ℤ) → List Entry → Option Instance → Type 0
IsLatestAmong nest e x p its entries found =
    (program : Program) → nest ≡ nest_of program → Loads program p its e x
    → IsLatest (trace program p) (StoredIn program p (record { statement = e.part; iterators = its }) (element_at (p ++ its) x) entries) found

-- the source of the load
abbrev pub IsReadFrom : Nest → (e : Entry) → (x : Access) → (p its : List ℤ) → Option Instance → Type 0
IsReadFrom nest e x p its found =
    (program : Program) → nest ≡ nest_of program → Loads program p its e x → IsSource program p (record { statement = e.part; iterators = its }) (element_at (p ++ its) x) found

-- an instance of a part that stores the array, its iterators within 2^40
pub record IsWriterAt (nest : Nest) (array : ℕ) (w : Instance) : Type 0 where
  pub entry : Entry
  pub there : slice_get nest.entries w.statement ≡ Some entry
  pub alive : IsTrue entry.alive
  pub store : Access
  pub is_store : slice_get entry.accesses (loads_in entry) ≡ Some store
  pub of_array : store.array.0 ≡ array
  pub long : length w.iterators ≡ coordinates entry
  pub near : All (λ x. unsigned_abs x ≤ 2 ^ 40) w.iterators

-- an instance of a part of the nest, with a number for each coordinate
pub record IsNumbered (nest : Nest) (w : Instance) : Type 0 where
  pub entry : Entry
  pub there : slice_get nest.entries w.statement ≡ Some entry
  pub long : length w.iterators ≡ coordinates entry

-- the later of two instances of the trace, if there are any
abbrev pub IsLaterOf : Nest → (p : List ℤ) → (first second later : Option Instance) → Type 0
IsLaterOf nest p None second later = later ≡ second
IsLaterOf nest p (Some u) None later = later ≡ Some u
IsLaterOf nest p (Some u) (Some w) later =
    (program : Program) → nest ≡ nest_of program → HasNest program → IsIn u (trace program p) → IsIn w (trace program p)
    → ((later ≡ Some w) × ((u ≡ w) ⊎ Earlier (trace program p) u w)) ⊎ ((later ≡ Some u) × ((w ≡ u) ⊎ Earlier (trace program p) w u))
