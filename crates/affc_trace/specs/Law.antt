-- Runs of instances of any kind, and which store each load sees. The form is our own: an instance is a value of any type I,
-- an element one of any type X, and a run is the list of its stores in order. The last store before a load is the last write
-- of Feautrier's dataflow analysis of array and scalar references (1991).
use Rattle.std.specs.Prelude.{◌≡◌, Bool, if◌then◌else◌, List, [], ◌∷◌, ◌++◌, Option, Some, None, map, ◌⊎◌}

-- What an instance does when it runs: the elements that it loads, in order, the element that it stores, and the value that
-- it stores, from the values that it has loaded.
pub record Effect (X V : Type 0) : Type 0 where
  pub loads : List X
  pub stores : X
  pub value : List V → V

-- the same with each element at its place
abbrev pub at_place : {X Y V : Type 0} → (X → Y) → Effect X V → Effect Y V
at_place place e = record { loads = map place e.loads; stores = place e.stores; value = e.value }

abbrev pub placed : {I X Y V : Type 0} → (X → Y) → (I → Effect X V) → I → Effect Y V
placed place effect b = at_place place (effect b)

abbrev pub or_else : {A : Type 0} → Option A → Option A → Option A
or_else (Some a) other = Some a
or_else None other = other

abbrev pub and_then : {A B : Type 0} → Option A → (A → Option B) → Option B
and_then None f = None
and_then (Some a) f = f a

abbrev pub both_of : {A : Type 0} → Option A → Option (List A) → Option (List A)
both_of first others = and_then first (λ x. and_then others (λ xs. Some (x ∷ xs)))

-- the last entry at x, where `same` tells which elements are equal
abbrev pub last_at : {X A : Type 0} → (X → X → Bool) → X → List (X × A) → Option A
last_at same x [] = None
last_at same x (e ∷ es) = or_else (last_at same x es) (if same x e.0 then Some e.1 else None)

-- the last of these instances that stores x
abbrev pub last_store : {I X V : Type 0} → (X → X → Bool) → (I → Effect X V) → List I → X → Option I
last_store same effect done x = last_at same x (map (λ a. ((effect a).stores, a)) done)

-- what x holds after these stores, where it held this at the start
abbrev pub held : {X V : Type 0} → (X → X → Bool) → (X → Option V) → List (X × V) → X → Option V
held same start written x = or_else (last_at same x written) (start x)

-- what these hold, if each has a value
abbrev pub all_held : {X V : Type 0} → (X → Option V) → List X → Option (List V)
all_held at [] = Some []
all_held at (x ∷ xs) = both_of (at x) (all_held at xs)

-- The stores of a run of these effects in order, after these stores; nothing where a load finds no value.
abbrev pub stores_of : {X V : Type 0} → (X → X → Bool) → (X → Option V) → List (X × V) → List (Effect X V) → Option (List (X × V))
stores_of same start written [] = Some []
stores_of {X} {V} same start written (e ∷ es) = and_then (all_held (held same start written) e.loads) (λ values.
    let w : X × V = (e.stores, e.value values) in
    and_then (stores_of same start (written ++ w ∷ []) es) (λ ws. Some (w ∷ ws)))

-- each instance stores this value
abbrev pub as_stored : {I X V : Type 0} → (I → Effect X V) → (I → V) → List I → List (X × V)
as_stored effect v is = map (λ b. ((effect b).stores, v b)) is

abbrev pub IsIn : {X : Type 0} → X → List X → Type 0
IsIn x [] = ⊥
IsIn x (y ∷ ys) = (x ≡ y) ⊎ IsIn x ys

-- In `target` each load finds, at the place of its element, the instance that it finds in `trace` at the element.
abbrev pub SameLastStores : {I X Y V : Type 0} → (X → X → Bool) → (Y → Y → Bool) → (X → Y) → (I → Effect X V) → List I → List I → Type 0
SameLastStores {I} {X} same same' place effect trace target =
    (before after : List I) (b : I) → target ≡ before ++ b ∷ after →
    (done : List I) × (rest : List I) × (trace ≡ done ++ b ∷ rest) ×
    ((x : X) → IsIn x (effect b).loads → last_store same' (placed place effect) before (place x) ≡ last_store same effect done x)

-- elements that are handed in are found at their places
abbrev pub HandedIn : {X Y V : Type 0} → (X → Y) → (X → Option V) → (Y → Option V) → Type 0
HandedIn {X} {Y} {V} place start start' = (x : X) (u : V) → start x ≡ Some u → start' (place x) ≡ Some u

-- The law of last stores at given types: where each load finds the same last store, all instances store what they store in `trace`.
abbrev pub EqualLastStores : (I X Y V : Type 0) → Type 0
EqualLastStores I X Y V =
    (effect : I → Effect X V) (same : X → X → Bool) (same' : Y → Y → Bool) (place : X → Y)
    (start : X → Option V) (start' : Y → Option V) (v : I → V) (trace target : List I) →
    stores_of same start [] (map effect trace) ≡ Some (as_stored effect v trace) →
    SameLastStores same same' place effect trace target →
    HandedIn place start start' →
    stores_of same' start' [] (map (placed place effect) target) ≡ Some (as_stored (placed place effect) v target)
