-- The questions of a leaf as the code lists them: each in the ranges of its columns behind those of the leaf.
use Rattle.std.specs.Prelude.{ℕ, ℤ, nat_eq, if◌then◌else◌, List, [], ◌∷◌, ◌++◌, map, flat_map, length, Option, Some, None}
use Rattle.affc_rows.specs.Forms.{Affine}
use Rattle.affc_system.specs.Systems.{Rows}
use Rattle.affc_ast.specs.declared.tree.Rel.TheVariants.{Less, Greater}
use Rattle.affc_trace.specs.Inverses.{columns_from}
use Rattle.affc_nest.specs.Domains.{compare_rows}
use Rattle.affc_nest.specs.declared.nest.Access.{Access}
use Rattle.affc_nest.specs.declared.nest.Entry.{Entry}
use Rattle.affc_nest.specs.declared.nest.Nest.{Nest}
use Rattle.affc_nest.specs.Parts.{coordinates, statement_of}
use Rattle.affc_order.specs.Posed.{Posed, form_at}
use Rattle.affc_order.specs.Systems.{rows_in, source_order}
use Rattle.affc_sched.specs.Questions.{equal_rows}
use Rattle.affc_quast.specs.Leaves.{Leaf, padded, negated}
use Rattle.affc_flow.specs.Asked.{writers_of}
use Rattle.affc_products.specs.Groups.{group_systems}
use Rattle.affc_questions.specs.declared.ranged.Ranged.{Ranged}
use Rattle.affc_flow.specs.Questions.{Question, Writer, poses, is_temporary, beside_columns, beside_rows, before_load, after_named}

-- the questions of a group
abbrev pub asked : Ranged → List Question
asked r = map (λ s. record { system = s; ranges = r.behind }) (group_systems r.group)

-- where the columns of the leaf have these ranges
abbrev pub in_ranges : List (ℤ × ℤ) → Ranged → List Question
in_ranges ranges r = map (λ s. record { system = s; ranges = ranges ++ r.behind }) (group_systems r.group)

-- a question where the columns of the leaf have these ranges
abbrev pub within : List (ℤ × ℤ) → Question → Question
within ranges q = record { system = q.system; ranges = ranges ++ q.ranges }

-- ---- Lists of rows

-- the system of these rows and those
abbrev pub behind : (columns : ℕ) → (front rows : List Affine) → Rows
behind columns front rows = record { columns = columns; rows = front ++ rows }

-- its question, in these ranges
abbrev pub asks : (columns : ℕ) → (front : List Affine) → (ranges : List (ℤ × ℤ)) → (rows : List Affine) → Question
asks columns front ranges rows = record { system = behind columns front rows; ranges = ranges }

-- two forms in turn: the first is greater, or less
abbrev pub sides : (fs gs : List Affine) → List (List Affine)
sides [] gs = []
sides (f ∷ fs) [] = []
sides (f ∷ fs) (g ∷ gs) = compare_rows Greater f g ∷ compare_rows Less f g ∷ sides fs gs

-- each of the second lists behind each of the first
abbrev pub joined : (firsts seconds : List (List Affine)) → List (List Affine)
joined firsts seconds = flat_map (λ o. map (λ u. o ++ u) seconds) firsts

-- ---- The instance that is named

-- the first part of these that is named
abbrev pub first_posed : Posed → List Writer → Option Writer
first_posed a [] = None
first_posed a (w ∷ ws) = if poses a w.0 then Some w else first_posed a ws

abbrev pub negations : List Affine → List (List Affine)
negations forms = map (λ f. negated f ∷ []) forms

-- the rows of the load's part and those above the leaf
abbrev pub own_path : (reader : Entry) → Leaf → List Affine
own_path reader leaf = map (padded leaf.columns) (reader.domain.rows ++ leaf.rows)

abbrev pub over_path : (reader : Entry) → Leaf → List (List Affine) → List Question
over_path reader leaf lists = map (asks leaf.columns (own_path reader leaf) []) lists

-- the coordinates of the load's part
abbrev pub own_columns : Nest → (reader : Entry) → (columns : ℕ) → List Affine
own_columns nest reader columns = columns_from columns (length nest.params) (coordinates reader)

-- the images of the columns of the part that is named, by these forms for its coordinates
abbrev pub images : Nest → (columns : ℕ) → List Affine → List Affine
images nest columns forms = columns_from columns 0 (length nest.params) ++ forms

-- it lies outside its part's domain, or writes another element than the load reads
abbrev pub astray_lists : Nest → (load : Access) → (columns : ℕ) → (forms : List Affine) → Entry → Access → List (List Affine)
astray_lists nest load columns forms w z =
    negations (map (form_at columns (images nest columns forms)) w.domain.rows) ++ sides (map (form_at columns (images nest columns forms)) z.subs) (map (padded columns) load.subs)

-- the load's instance is earlier, or the same
abbrev pub late_lists : Nest → (reader : Entry) → (columns : ℕ) → Posed → List (List Affine)
late_lists nest reader columns a =
    map rows_in (source_order nest columns (record { part = reader.part; iterators = own_columns nest reader columns }) a)
    ++ (if nat_eq reader.statement (statement_of nest a.part) then equal_rows (own_columns nest reader columns) a.iterators ∷ [] else [])

module _ (nest : Nest) (reader : Entry) (load : Access) (leaf : Leaf) where
  -- ---- Parts that store the array

  module _ (v : Entry) (y : Access) where
    abbrev pub over_beside : List (List Affine) → List Question
    over_beside lists = map (asks (beside_columns nest reader load [] leaf v y) (beside_rows nest reader load [] leaf v y) v.ranges) lists

    abbrev pub before_lists : List (List Affine)
    before_lists = map rows_in (before_load nest reader load [] leaf v y)

    abbrev pub after_lists : Posed → List (List Affine)
    after_lists a = map rows_in (after_named nest reader load [] leaf v y a)

    abbrev pub earlier_listed : List Question
    earlier_listed = over_beside before_lists

    abbrev pub between_listed : Posed → List Question
    between_listed a = over_beside (joined (after_lists a) before_lists)

  abbrev pub all_earlier : List Entry → List Question
  all_earlier entries = flat_map (λ (v : Writer). earlier_listed v.0 v.1) (flat_map (writers_of load.array.0) entries)

  abbrev pub all_between : Posed → List Entry → List Question
  all_between a entries = flat_map (λ (v : Writer). between_listed v.0 v.1 a) (flat_map (writers_of load.array.0) entries)

  -- ---- All of them

  abbrev pub named_listed : Posed → Entry → Access → List Question
  named_listed a w z =
      over_path reader leaf (astray_lists nest load leaf.columns a.iterators w z ++ late_lists nest reader leaf.columns a) ++ all_between a nest.entries

  abbrev pub found_listed : Posed → Option Writer → List Question
  found_listed a None = over_path reader leaf ([] ∷ [])
  found_listed a (Some w) = named_listed a w.0 w.1

  abbrev pub input_listed : List Question
  input_listed = if is_temporary nest load.array.0 then over_path reader leaf ([] ∷ []) else all_earlier nest.entries

  abbrev pub listed_for : Option Posed → List Question
  listed_for None = input_listed
  listed_for (Some a) = found_listed a (first_posed a (flat_map (writers_of load.array.0) nest.entries))
