-- What questions are asked of.
use Rattle.std.specs.Prelude.{◌≡◌, ℕ, Some, slice_get}
use Rattle.affc_rows.specs.Forms.{Affine}
use Rattle.affc_ast.specs.declared.tree.Program.{Program}
use Rattle.affc_trace.specs.Law.{IsIn}
use Rattle.affc_nest.specs.declared.nest.Access.{Access}
use Rattle.affc_nest.specs.declared.nest.ArrayInfo.{ArrayInfo}
use Rattle.affc_nest.specs.declared.nest.Entry.{Entry}
use Rattle.affc_nest.specs.declared.nest.Nest.{Nest}
use Rattle.affc_nest.specs.Laws.{HasNest}
use Rattle.affc_nest.specs.Nests.{nest_of}
use Rattle.affc_nest.specs.Questions.{extent_at}

-- the nest of a program that has one
pub record IsNest (nest : Nest) : Type 0 where
  pub program : Program
  pub has : HasNest program
  pub is : nest ≡ nest_of program

-- the extent of an array in some dimension
pub record IsExtent (nest : Nest) (extent : Affine) : Type 0 where
  pub array : ArrayInfo
  pub declared : IsIn array nest.arrays
  pub of_array : IsIn extent array.extents

-- a subscript of an access
pub record IsSubscript (entry : Entry) (sub : Affine) : Type 0 where
  pub access : Access
  pub made : IsIn access entry.accesses
  pub of_access : IsIn sub access.subs

-- ---- That they can be asked

-- the nest of a program, each extent, each subscript, each entry
abbrev pub NestsAreAsked : Type 0
NestsAreAsked = (program : Program) → HasNest program → IsNest (nest_of program)

abbrev pub ExtentsAreAsked : Type 0
ExtentsAreAsked = (nest : Nest) (array dimension : ℕ) (extent : Affine) → extent_at nest array dimension ≡ Some extent → IsExtent nest extent

abbrev pub SubscriptsAreAsked : Type 0
SubscriptsAreAsked = (entry : Entry) (access dimension : ℕ) (x : Access) (sub : Affine) → slice_get entry.accesses access ≡ Some x → slice_get x.subs dimension ≡ Some sub → IsSubscript entry sub

abbrev pub EntriesAreAsked : Type 0
EntriesAreAsked = (nest : Nest) (statement : ℕ) (entry : Entry) → slice_get nest.entries statement ≡ Some entry → IsIn entry nest.entries
