-- Two orders of the same instances, and what keeps each load's last store. Live ranges of elements and the conflicts between
-- them are those of Lefebvre and Feautrier (1998) and of Darte, Schreiber and Villard (2005); that a store whose value is
-- never loaded counts too is our own.
use Rattle.std.specs.Prelude.{◌≡◌, ◌≢◌, Bool, List, [], ◌∷◌, ◌++◌, Option, Some, ◌⊎◌}
use Rattle.affc_trace.specs.Law.{Effect, last_store, IsIn}

-- a stands before b
abbrev pub Earlier : {I : Type 0} → List I → I → I → Type 0
Earlier [] a b = ⊥
Earlier (x ∷ xs) a b = (a ≡ x) × IsIn b xs ⊎ Earlier xs a b

abbrev pub AreDistinct : {I : Type 0} → List I → Type 0
AreDistinct [] = Unit {0}
AreDistinct (x ∷ xs) = (¬ (IsIn x xs)) × AreDistinct xs

-- the same instances, each once in both lists
pub record IsReordered {I : Type 0} (trace target : List I) : Type 0 where
  pub once : AreDistinct trace
  pub once_in_target : AreDistinct target
  pub kept : (a : I) → IsIn a trace → IsIn a target
  pub no_other : (a : I) → IsIn a target → IsIn a trace

module _ {I X V : Type 0} (effect : I → Effect X V) where
  abbrev pub Touches : I → X → Type 0
  Touches b x = IsIn x (effect b).loads ⊎ (x ≡ (effect b).stores)

  -- A dependence through memory, whichever comes first: both touch one element, and at least one of them stores it.
  pub record Dependent (a b : I) : Type 0 where
    pub element : X
    pub first : Touches a element
    pub second : Touches b element
    pub stored : (element ≡ (effect a).stores) ⊎ (element ≡ (effect b).stores)

  -- dependent instances keep their order
  abbrev pub Legal : List I → List I → Type 0
  Legal trace target = (a b : I) → a ≢ b → Dependent a b → Earlier trace a b → Earlier target a b

  module _ (same : X → X → Bool) where
    -- the last instance before b that stores x (the last write of Feautrier 1991), or None where no store of x comes before b
    abbrev pub IsSource : List I → I → X → Option I → Type 0
    IsSource trace b x s = (done : List I) × (rest : List I) × (trace ≡ done ++ b ∷ rest) × (last_store same effect done x ≡ s)

    -- y is stored while the value that x holds is still to be loaded; a store by the loading instance itself comes after the load
    pub record StoredBetween (trace target : List I) (x y : X) : Type 0 where
      pub store : I
      pub load : I
      pub other : I
      pub loads : IsIn x (effect load).loads
      pub source : IsSource trace load x (Some store)
      pub stores : y ≡ (effect other).stores
      pub after : Earlier target store other
      pub before : Earlier target other load

    -- a conflict of live ranges: different elements of one array, either of which is stored while the other's value is still to be loaded
    pub record LivePair (OneArray : X → X → Type 0) (trace target : List I) (x y : X) : Type 0 where
      pub distinct : x ≢ y
      pub one_array : OneArray x y
      pub between : StoredBetween trace target x y ⊎ StoredBetween trace target y x

    -- no live pair has one place
    abbrev pub Admissible : {Y : Type 0} → (X → X → Type 0) → (X → Y) → List I → List I → Type 0
    Admissible OneArray place trace target = (x y : X) → LivePair OneArray trace target x y → place x ≢ place y

-- places of different arrays differ, and an element that is handed in shares its place with no other
pub record KeepsArrays {X Y V : Type 0} (OneArray : X → X → Type 0) (place : X → Y) (start : X → Option V) : Type 0 where
  pub apart : (x y : X) → place x ≡ place y → OneArray x y
  pub own : (x y : X) (u : V) → start x ≡ Some u → place x ≡ place y → x ≡ y
