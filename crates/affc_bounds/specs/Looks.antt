-- What the questions of a nest find: their integer points, each as the fault that it shows.
use Rattle.std.specs.Prelude.{◌≡◌, ℕ, ◌+◌, ◌≤◌, ℤ, pos, Bool, true, false, IsTrue, List, [], ◌∷◌, ◌++◌, length, Option, Some, None}
use Rattle.std.specs.List.{All}
use Rattle.affc_rows.specs.Forms.{Affine}
use Rattle.affc_system.specs.Boxes.{InBox}
use Rattle.affc_system.specs.Pairs.{WithinReach}
use Rattle.affc_system.specs.Systems.{Rows, IsPoint}
use Rattle.affc_leaf.specs.Points.{IsLeastPoint}
use Rattle.affc_ast.specs.declared.tree.ArrayId.{ArrayId}
use Rattle.affc_trace.specs.Law.{IsIn}
use Rattle.affc_nest.specs.declared.nest.Access.{Access}
use Rattle.affc_nest.specs.declared.nest.ArrayInfo.{ArrayInfo}
use Rattle.affc_nest.specs.declared.nest.Entry.{Entry}
use Rattle.affc_nest.specs.declared.nest.Nest.{Nest}
use Rattle.affc_nest.specs.Parts.{coordinates}
use Rattle.affc_nest.specs.Asked.{IsNest, IsExtent, IsSubscript}
use Rattle.affc_nest.specs.Questions.{extent_question, extents_of_access, low_question, high_question}
use Rattle.affc_bounds.specs.Found.{Nowhere, Either, IsFirst}
use Rattle.affc_bounds.specs.Spots.{spot_of}
use Rattle.affc_bounds.specs.declared.fault.MeaningFault.{MeaningFault}
use Rattle.affc_bounds.specs.declared.fault.MeaningFault.TheVariants.{Context, Extent, Bounds}
use Rattle.affc_bounds.specs.declared.found.Found.{Found}

-- ---- One question

-- the least point that a question has in a box, if it has one there
abbrev pub IsLeastIn : Rows → List (ℤ × ℤ) → Option (List ℤ) → Type 0
IsLeastIn question ranges None = (x : List ℤ) → InBox ranges x → IsPoint question x → ⊥
IsLeastIn question ranges (Some x) = IsLeastPoint question ranges x

-- whether some p is in the context
abbrev pub ContextSays : Nest → Bool → Type 0
ContextSays nest true = (p : List ℤ) × InBox nest.params p × IsPoint nest.context p
ContextSays nest false = (p : List ℤ) → InBox nest.params p → IsPoint nest.context p → ⊥

-- ---- Extents

-- a point of the question on this extent of the array
pub record IsNarrowAt (nest : Nest) (array : ℕ) (extent : Affine) (found : Found) : Type 0 where
  pub p : List ℤ
  pub inside : InBox nest.params p
  pub meets : IsPoint (extent_question nest extent) p
  pub key : found.key ≡ p ++ pos array ∷ []
  pub fault : found.fault ≡ Extent (record { 0 = array }) p

abbrev pub InExtents : Nest → (array : ℕ) → List Affine → Found → Type 0
InExtents nest array [] = Nowhere
InExtents nest array (e ∷ es) = Either (IsNarrowAt nest array e) (InExtents nest array es)

abbrev pub InArrays : Nest → (first : ℕ) → List ArrayInfo → Found → Type 0
InArrays nest first [] = Nowhere
InArrays nest first (a ∷ as') = Either (InExtents nest first a.extents) (InArrays nest (first + 1) as')

-- all these are extents of the nest
abbrev pub AreExtents : Nest → List Affine → Type 0
AreExtents nest [] = Unit {0}
AreExtents nest (e ∷ es) = IsExtent nest e × AreExtents nest es

abbrev pub HaveExtents : Nest → List ArrayInfo → Type 0
HaveExtents nest [] = Unit {0}
HaveExtents nest (a ∷ as') = AreExtents nest a.extents × HaveExtents nest as'

-- ---- Accesses

-- a point of a question on this access, over so many parameters and then the iterators
pub record IsOutsideAt (params statement access : ℕ) (array : ArrayId) (ranges : List (ℤ × ℤ)) (question : Rows) (found : Found) : Type 0 where
  pub p : List ℤ
  pub iterators : List ℤ
  pub width : length p ≡ params
  pub inside : InBox ranges (p ++ iterators)
  pub meets : IsPoint question (p ++ iterators)
  pub key : found.key ≡ spot_of p (record { statement = statement; iterators = iterators }) access
  pub fault : found.fault ≡ Bounds array access p (record { statement = statement; iterators = iterators })

abbrev pub box_of : Nest → Entry → List (ℤ × ℤ)
box_of nest e = nest.params ++ e.ranges

abbrev pub InDimension : Nest → Entry → (access : ℕ) → ArrayId → (sub extent : Affine) → Found → Type 0
InDimension nest e access array sub extent =
    Either (IsOutsideAt (length nest.params) e.statement access array (box_of nest e) (low_question e.domain sub))
    (IsOutsideAt (length nest.params) e.statement access array (box_of nest e) (high_question e.domain (coordinates e) sub extent))

abbrev pub InDimensions : Nest → Entry → (access : ℕ) → ArrayId → (subs extents : List Affine) → Found → Type 0
InDimensions nest e access array (s ∷ ss) (x ∷ xs) = Either (InDimension nest e access array s x) (InDimensions nest e access array ss xs)
InDimensions nest e access array _ _ = Nowhere

abbrev pub InAccesses : Nest → Entry → (first : ℕ) → List Access → Found → Type 0
InAccesses nest e first [] = Nowhere
InAccesses nest e first (x ∷ xs) = Either (InDimensions nest e first x.array x.subs (extents_of_access nest x)) (InAccesses nest e (first + 1) xs)

abbrev pub InEntry : Nest → Entry → Found → Type 0
InEntry nest e f = IsTrue e.alive × InAccesses nest e 0 e.accesses f

abbrev pub InEntries : Nest → List Entry → Found → Type 0
InEntries nest [] = Nowhere
InEntries nest (e ∷ es) = Either (InEntry nest e) (InEntries nest es)

-- all these are subscripts of the entry
abbrev pub AreSubscripts : Entry → List Affine → Type 0
AreSubscripts e [] = Unit {0}
AreSubscripts e (s ∷ ss) = IsSubscript e s × AreSubscripts e ss

abbrev pub HaveSubscripts : Entry → List Access → Type 0
HaveSubscripts e [] = Unit {0}
HaveSubscripts e (x ∷ xs) = AreSubscripts e x.subs × HaveSubscripts e xs

-- an entry of which questions may be asked in the box of its parameters and iterators
pub record IsAlive (nest : Nest) (e : Entry) : Type 0 where
  pub nest_of : IsNest nest
  pub there : IsIn e nest.entries
  pub columns : length (box_of nest e) ≡ e.domain.columns
  pub reach : All WithinReach (box_of nest e)
  pub few : length e.accesses ≤ 16
  pub subs : HaveSubscripts e e.accesses

abbrev pub AreAlive : Nest → List Entry → Type 0
AreAlive nest [] = Unit {0}
AreAlive nest (e ∷ es) = (IsTrue e.alive → IsAlive nest e) × AreAlive nest es

-- ---- A whole nest

-- some p is in the context, and no question has a point
pub record IsClean (nest : Nest) : Type 0 where
  pub context : ContextSays nest true
  pub extents : IsFirst (InArrays nest 0 nest.arrays) None
  pub accesses : IsFirst (InEntries nest nest.entries) None

-- the context is empty, or this is the first fault among the extents, or, where there is none, among the accesses
pub data IsFaultOf (nest : Nest) (fault : MeaningFault) : Type 0 where
  empty : fault ≡ Context → ContextSays nest false → IsFaultOf nest fault
  narrow : (found : Found) → fault ≡ found.fault → IsFirst (InArrays nest 0 nest.arrays) (Some found) → IsFaultOf nest fault
  outside : (found : Found) → fault ≡ found.fault → IsFirst (InArrays nest 0 nest.arrays) None → IsFirst (InEntries nest nest.entries) (Some found) → IsFaultOf nest fault
