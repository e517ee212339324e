-- The layout of a nest, exactly.
use Rattle.std.specs.Prelude.{◌≡◌, ℕ, ◌+◌, nat_eq, nat_lt, Bool, false, ◌&&◌, if◌then◌else◌, List, [], ◌∷◌, ◌++◌, length, map, flat_map, Option, Some, None}
use Rattle.affc_nest.specs.declared.nest.Access.{Access}
use Rattle.affc_nest.specs.declared.nest.ArrayInfo.{ArrayInfo}
use Rattle.affc_nest.specs.declared.nest.Entry.{Entry}
use Rattle.affc_nest.specs.declared.nest.Nest.{Nest}
use Rattle.affc_nest.specs.Parts.{coordinates}
use Rattle.affc_flow.specs.Questions.{is_temp, store_of_entry}
use Rattle.affc_cert.specs.declared.layout.Layout.{Layout}
use Rattle.affc_certvalue.specs.declared.fold.layout.Temporary.{Temporary}
use Rattle.affc_cert.specs.declared.tree.layout.Load.{Load}
use Rattle.affc_cert.specs.declared.tree.layout.Store.{Store}
use Rattle.affc_check.specs.Layouts.{IsLayoutOf}

-- ---- Loads

abbrev pub is_of : (array : ℕ) → Option Access → Bool
is_of array None = false
is_of array (Some x) = nat_eq x.array.0 array

-- whether a part can have instances, and stores this array
abbrev pub is_writer : (array : ℕ) → Entry → Bool
is_writer array e = e.alive && is_of array (store_of_entry e)

-- such parts among these, which have the numbers from this one on
abbrev pub stores_from : (array first : ℕ) → List Entry → List Store
stores_from array first [] = []
stores_from array first (e ∷ es) = (if is_writer array e then record { statement = first; loops = coordinates e } ∷ [] else []) ++ stores_from array (first + 1) es

-- a load of the part
abbrev pub load_of : Nest → Entry → Access → Load
load_of nest e x = record { columns = length nest.params + coordinates e; stores = stores_from x.array.0 0 nest.entries }

-- the loads among its accesses, all but the last
abbrev pub loads_among : Nest → Entry → List Access → List Load
loads_among nest e [] = []
loads_among nest e (x ∷ []) = []
loads_among nest e (x ∷ y ∷ ys) = load_of nest e x ∷ loads_among nest e (y ∷ ys)

abbrev pub loads_of : Nest → Entry → List Load
loads_of nest e = loads_among nest e e.accesses

-- ---- Temporaries

-- an array with so many dimensions
abbrev pub Dimensions : Type 0
Dimensions = ℕ × ℕ

abbrev pub dimensions_of : Temporary → Dimensions
dimensions_of t = (t.array, t.dimensions)

-- the temporaries of at least one dimension among these arrays, which have the numbers from this one on
abbrev pub temporaries_from : (first : ℕ) → List ArrayInfo → List Dimensions
temporaries_from first [] = []
temporaries_from first (a ∷ as') = (if is_temp a.role && nat_lt 0 (length a.extents) then (first, length a.extents) ∷ [] else []) ++ temporaries_from (first + 1) as'

-- ---- All of it

-- The loads of all parts in order; and the temporaries of at least one dimension, in order.
pub record IsLayout (nest : Nest) (layout : Layout) : Type 0 where
  pub parameters : layout.parameters ≡ nest.context.columns
  pub loads : layout.loads ≡ flat_map (loads_of nest) nest.entries
  pub temporaries : map dimensions_of layout.temporaries ≡ temporaries_from 0 nest.arrays

-- Certificates that are read for it may be checked.
abbrev pub LayoutsAreOfNests : Type 0
LayoutsAreOfNests = (nest : Nest) (layout : Layout) → IsLayout nest layout → IsLayoutOf nest layout
