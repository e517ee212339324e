-- Dependences, sources and live pairs of a program, for a schedule at p; and lists of them that compute.
use Rattle.std.specs.Prelude.{◌≡◌, ◌≢◌, ℕ, nat_eq, ℤ, Bool, false, not, ◌&&◌, ◌||◌, if◌then◌else◌, List, [], ◌∷◌, ◌++◌, Option, Some, None, map, flat_map, filter}
use Rattle.std.specs.declared.cmp.Ordering.{Ordering}
use Rattle.std.specs.Ordering.{is_eq, ordering_then, nat_cmp, int_cmp}
use Rattle.std.specs.Cmp.Lexicographic.{slice_cmp}
use Rattle.affc_ast.specs.declared.tree.Instance.{Instance}
use Rattle.affc_ast.specs.declared.tree.Program.{Program}
use Rattle.affc_ast.specs.Store.{Element, element_cmp}
use Rattle.affc_ast.specs.Trace.{trace, loads_of, store_of}
use Rattle.affc_trace.specs.declared.schedule.Schedule.{Schedule}
use Rattle.affc_trace.specs.Law.{last_store, IsIn}
use Rattle.affc_trace.specs.Orders.{Earlier, Dependent}
use Rattle.affc_trace.specs.Orders as orders
use Rattle.affc_trace.specs.Effects.{effect}
use Rattle.affc_trace.specs.Target.{target}

abbrev pub same_element : Element → Element → Bool
same_element x y = is_eq (element_cmp x y)

abbrev pub instance_cmp : Instance → Instance → Ordering
instance_cmp a b = ordering_then (nat_cmp a.statement b.statement) (slice_cmp int_cmp a.iterators b.iterators)

abbrev pub same_instance : Instance → Instance → Bool
same_instance a b = is_eq (instance_cmp a b)

abbrev pub OneArray : Element → Element → Type 0
OneArray x y = x.0 ≡ y.0

-- the number of the array whose buffer each array's elements are put into
abbrev pub Buffers : Type 0
Buffers = ℕ → ℕ

-- each array has its own
abbrev pub unshared : Buffers
unshared array = array

abbrev pub OneBuffer : Buffers → Element → Element → Type 0
OneBuffer buffer x y = buffer x.0 ≡ buffer y.0

-- ---- The notions of Orders, at a program's instances

-- at p no dependence is turned round
abbrev pub Legal : Program → Schedule → (p : List ℤ) → Type 0
Legal program schedule p = orders.Legal (effect program p) (trace program p) (target program schedule p)

-- a dependence that is turned round: b depends on a, and the schedule doesn't run a before b
pub record Violates (program : Program) (schedule : Schedule) (p : List ℤ) (a b : Instance) : Type 0 where
  pub different : a ≢ b
  pub dependent : Dependent (effect program p) a b
  pub earlier : Earlier (trace program p) a b
  pub not_earlier : ¬ (Earlier (target program schedule p) a b)

-- the last instance before b in the trace that stores x, or None where no store of x comes before b
abbrev pub IsSource : Program → (p : List ℤ) → Instance → Element → Option Instance → Type 0
IsSource program p b x s = orders.IsSource (effect program p) same_element (trace program p) b x s

-- the last write itself: w stores x before b, and no instance that stores x stands between the two
pub record IsLastWrite (program : Program) (p : List ℤ) (b : Instance) (x : Element) (w : Instance) : Type 0 where
  pub earlier : Earlier (trace program p) w b
  pub stores : x ≡ (effect program p w).stores
  pub none_between : (v : Instance) → x ≡ (effect program p v).stores → Earlier (trace program p) w v → Earlier (trace program p) v b → ⊥

-- an instance before which no instance stores x
pub record NoneWrites (program : Program) (p : List ℤ) (b : Instance) (x : Element) : Type 0 where
  pub stands : IsIn b (trace program p)
  pub none : (v : Instance) → x ≡ (effect program p v).stores → Earlier (trace program p) v b → ⊥

-- two elements of any array, of which either is stored while the other's value is still to be loaded
abbrev pub AreLive : Program → Schedule → (p : List ℤ) → Element → Element → Type 0
AreLive program schedule p x y = orders.LivePair (effect program p) same_element OneArray (trace program p) (target program schedule p) x y

-- the same for one array, by the subscripts
abbrev pub LivePair : Program → Schedule → (array : ℕ) → (p : List ℤ) → List ℤ → List ℤ → Type 0
LivePair program schedule array p x y = AreLive program schedule p (array, x) (array, y)

-- No two elements of one buffer that are live together have one place. Where no buffer is shared, these are the elements of one array.
abbrev pub Admissible : Buffers → Program → Schedule → (p : List ℤ) → (Element → Element) → Type 0
Admissible buffer program schedule p place = orders.Admissible (effect program p) same_element (OneBuffer buffer) place (trace program p) (target program schedule p)

-- ---- Lists of them

-- the instances before the first b, and those after it
abbrev pub up_to : Instance → List Instance → List Instance
up_to b [] = []
up_to b (a ∷ is) = if same_instance b a then [] else a ∷ up_to b is

abbrev pub past : Instance → List Instance → List Instance
past b [] = []
past b (a ∷ is) = if same_instance b a then is else past b is

abbrev pub is_among : {A : Type 0} → (A → A → Bool) → A → List A → Bool
is_among same x [] = false
is_among same x (y ∷ ys) = same x y || is_among same x ys

-- the source of a load of x by b
abbrev pub source : Program → (p : List ℤ) → Instance → Element → Option Instance
source program p b x = last_store same_element (effect program p) (up_to b (trace program p)) x

abbrev pub between : Option Instance → Instance → List Instance → List Instance
between None b is = []
between (Some a) b is = past a (up_to b is)

-- different elements of the array of x
abbrev pub rivals : Element → List Element → List Element
rivals x ys = filter (λ y. nat_eq x.0 y.0 && not (same_element x y)) ys

-- the pairs of a loaded element and one that is stored between the load's source and the load
abbrev pub stored_pairs : Program → Schedule → (p : List ℤ) → List (Element × Element)
stored_pairs program schedule p =
    flat_map (λ b.
    flat_map (λ x.
    map (λ y. (x, y)) (rivals x (map (store_of program p) (between (source program p b x) b (target program schedule p)))))
    (loads_of program p b))
    (trace program p)

-- the pairs of elements that are live together, each in both orders
abbrev pub live_pairs : Program → Schedule → (p : List ℤ) → List (Element × Element)
live_pairs program schedule p =
    let pairs = stored_pairs program schedule p in
    pairs ++ map (λ e. (e.1, e.0)) pairs

-- both touch one element, and at least one of them stores it
abbrev pub are_dependent : Program → (p : List ℤ) → Instance → Instance → Bool
are_dependent program p a b =
    same_element (store_of program p a) (store_of program p b)
    || is_among same_element (store_of program p a) (loads_of program p b)
    || is_among same_element (store_of program p b) (loads_of program p a)

-- the dependences that the schedule turns round
abbrev pub violations : Program → Schedule → (p : List ℤ) → List (Instance × Instance)
violations program schedule p =
    flat_map (λ b.
    map (λ a. (a, b)) (filter (λ a. are_dependent program p a b && not (is_among same_instance a (up_to b (target program schedule p)))) (up_to b (trace program p))))
    (trace program p)
