-- Questions on extents and on accesses: systems that have no integer point exactly where each extent is at least 1 and each
-- access lies within its array, throughout the context.
use Rattle.std.specs.Prelude.{ℕ, pos, negsuc, if◌then◌else◌, List, [], ◌∷◌, ◌++◌, map, flat_map, Option, Some, None, slice_get}
use Rattle.affc_rows.specs.Forms.{Affine}
use Rattle.affc_system.specs.Systems.{Rows}
use Rattle.affc_nest.specs.Domains.{gap_row, number_form, box_rows}
use Rattle.affc_nest.specs.Parts.{coordinates}
use Rattle.affc_nest.specs.declared.nest.Access.{Access}
use Rattle.affc_nest.specs.declared.nest.ArrayInfo.{ArrayInfo}
use Rattle.affc_nest.specs.declared.nest.Entry.{Entry}
use Rattle.affc_nest.specs.declared.nest.Nest.{Nest}
pub use Rattle.affc_rows.specs.Vocabulary.{widened}

-- the system with one row more
abbrev pub with_row : Rows → Affine → Rows
with_row system row = record system { rows = system.rows ++ row ∷ [] }

-- ---- Extents

abbrev pub extents_or_none : Option ArrayInfo → List Affine
extents_or_none (Some a) = a.extents
extents_or_none None = []

-- the extent of an array in a dimension, if there is one
abbrev pub extent_at : Nest → (array dimension : ℕ) → Option Affine
extent_at nest array dimension = slice_get (extents_or_none (slice_get nest.arrays array)) dimension

-- the parameters in their ranges, and the context
abbrev pub whole_context : Nest → Rows
whole_context nest = record { columns = nest.context.columns; rows = box_rows nest.context.columns 0 nest.params ++ nest.context.rows }

-- an extent at most 0
abbrev pub extent_question : Nest → (extent : Affine) → Rows
extent_question nest extent = with_row (whole_context nest) (gap_row extent (number_form nest.context.columns (pos 0)) 0)

-- per array and dimension
abbrev pub extent_questions : Nest → List Rows
extent_questions nest = flat_map (λ a. map (extent_question nest) a.extents) nest.arrays

-- ---- Accesses

-- the extents of an access's array
abbrev pub extents_of_access : Nest → Access → List Affine
extents_of_access nest x = extents_or_none (slice_get nest.arrays x.array.0)

-- a subscript at most -1
abbrev pub low_question : (domain : Rows) → (sub : Affine) → Rows
low_question domain sub = with_row domain (gap_row sub (number_form domain.columns (negsuc 0)) 0)

-- a subscript at least the extent, in a domain with so many iterators
abbrev pub high_question : (domain : Rows) → (loops : ℕ) → (sub extent : Affine) → Rows
high_question domain loops sub extent = with_row domain (gap_row (widened loops extent) sub 0)

-- per dimension: below 0, above the extent less 1
abbrev pub questions_of : (domain : Rows) → (loops : ℕ) → (subs extents : List Affine) → List Rows
questions_of domain loops (s ∷ ss) (e ∷ es) = low_question domain s ∷ high_question domain loops s e ∷ questions_of domain loops ss es
questions_of domain loops _ _ = []

abbrev pub entry_questions : Nest → Entry → List Rows
entry_questions nest entry =
    if entry.alive then flat_map (λ x. questions_of entry.domain (coordinates entry) x.subs (extents_of_access nest x)) entry.accesses else []

-- per statement that can have instances, access and dimension
abbrev pub bound_questions : Nest → List Rows
bound_questions nest = flat_map (entry_questions nest) nest.entries
