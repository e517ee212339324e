-- Where a program leaves its arrays, at the p of its context: extents below 1, and accesses that lie outside.
use Rattle.std.specs.Prelude.{◌≡◌, ℕ, ℤ, pos, ◌≤ℤ◌, List, [], ◌∷◌, ◌++◌, Some, slice_get}
use Rattle.affc_system.specs.Order.{LexLe}
use Rattle.affc_ast.specs.declared.tree.Decl.{Decl}
use Rattle.affc_ast.specs.declared.tree.Instance.{Instance}
use Rattle.affc_ast.specs.declared.tree.Ix.{Ix}
use Rattle.affc_ast.specs.declared.tree.Program.{Program}
use Rattle.affc_ast.specs.Fits.{whole}
use Rattle.affc_ast.specs.Store.{Element}
use Rattle.affc_ast.specs.Trace.{trace, events}
use Rattle.affc_trace.specs.Law.{IsIn}
use Rattle.affc_trace.specs.Laws.{IsInContext}
use Rattle.affc_domain.specs.Arrays.{declared_arrays}
use Rattle.affc_safe.specs.Safe.{LiesWithin}

-- ---- Extents

-- the array of this number has an extent below 1 at p, which is in the context
pub record IsNarrow (program : Program) (p : List ℤ) (array : ℕ) : Type 0 where
  pub context : IsInContext program p
  pub decl : Decl
  pub declared : slice_get (declared_arrays program) array ≡ Some decl
  pub extent : Ix
  pub is_extent : IsIn extent decl.extents
  pub below : whole extent p ≤ℤ pos 0

-- and no array has one at an earlier p of the context, in lexicographic order, nor an array before it at p
pub record IsFirstNarrow (program : Program) (p : List ℤ) (array : ℕ) : Type 0 where
  pub narrow : IsNarrow program p array
  pub first : (q : List ℤ) (other : ℕ) → IsNarrow program q other → LexLe (p ++ pos array ∷ []) (q ++ pos other ∷ [])

-- ---- Accesses

-- the element that this access of an instance touches, at p of the context, lies outside its array
pub record IsOutside (program : Program) (p : List ℤ) (here : Instance) (access : ℕ) : Type 0 where
  pub context : IsInContext program p
  pub runs : IsIn here (trace program p)
  pub element : Element
  pub touched : slice_get (events program p here) access ≡ Some element
  pub outside : ¬ (LiesWithin program p element)

-- where an access of an instance stands: p, the statement, the iterators, the access
abbrev pub spot_of : (p : List ℤ) → Instance → (access : ℕ) → List ℤ
spot_of p here access = p ++ pos here.statement ∷ here.iterators ++ pos access ∷ []

-- and no access lies outside at an earlier spot, in lexicographic order
pub record IsFirstOutside (program : Program) (p : List ℤ) (here : Instance) (access : ℕ) : Type 0 where
  pub outside : IsOutside program p here access
  pub first : (q : List ℤ) (b : Instance) (other : ℕ) → IsOutside program q b other → LexLe (spot_of p here access) (spot_of q b other)
