-- The orders of instances as systems. Two instances that are posed at a point meet one of the systems exactly where the
-- first is earlier.
use Rattle.std.specs.Prelude.{ℕ, zero, suc, ◌+◌, nat_lt, Bool, if◌then◌else◌, List, [], ◌∷◌, ◌++◌, map, length, Option, Some, None, slice_get}
use Rattle.affc_rows.specs.Forms.{Affine}
use Rattle.affc_system.specs.Systems.{Rows}
use Rattle.affc_ast.specs.declared.tree.Rel.TheVariants.{Less, Equal}
use Rattle.affc_trace.specs.declared.schedule.Schedule.{Schedule}
use Rattle.affc_trace.specs.declared.schedule.Schedule.TheVariants.{Source, Time}
use Rattle.affc_trace.specs.declared.schedule.TimeMap.{TimeMap}
use Rattle.affc_trace.specs.Inverses.{columns_from}
use Rattle.affc_domain.specs.Loops.{shared}
use Rattle.affc_nest.specs.Domains.{compare_rows}
use Rattle.affc_nest.specs.declared.nest.Entry.{Entry}
use Rattle.affc_nest.specs.declared.nest.Nest.{Nest}
use Rattle.affc_nest.specs.Parts.{statement_of}
use Rattle.affc_order.specs.Posed.{Posed, form_at}

abbrev pub rows_in : Rows → List Affine
rows_in s = s.rows

-- these rows over so many columns
abbrev pub over : (columns : ℕ) → List Affine → Rows
over columns rows = record { columns = columns; rows = rows }

-- Behind these rows, so many pairs of forms are compared in turn: one system says that the first is less, and the others
-- that the two are equal and what comes then. Where all are equal, this test decides.
abbrev pub lex_systems : (columns n : ℕ) → (fs gs : List Affine) → (rows : List Affine) → (tie : Bool) → List Rows
lex_systems columns zero fs gs rows tie = if tie then record { columns = columns; rows = rows } ∷ [] else []
lex_systems columns (suc n) [] gs rows tie = []
lex_systems columns (suc n) (f ∷ fs) [] rows tie = []
lex_systems columns (suc n) (f ∷ fs) (g ∷ gs) rows tie =
    record { columns = columns; rows = rows ++ compare_rows Less f g } ∷ lex_systems columns n fs gs (rows ++ compare_rows Equal f g) tie

-- ---- The order of the text

abbrev pub loops_or_none : Option Entry → List ℕ
loops_or_none None = []
loops_or_none (Some e) = e.loops

-- the numbers of the loops round a part
abbrev pub loops_of : Nest → (part : ℕ) → List ℕ
loops_of nest part = loops_or_none (slice_get nest.entries part)

-- how many coordinates an instance has there
abbrev pub coordinates_of : Nest → (part : ℕ) → ℕ
coordinates_of nest part = length (loops_of nest part)

-- by the iterators of the loops that both share, and then by the statements' numbers
abbrev pub source_order : Nest → (columns : ℕ) → (first second : Posed) → List Rows
source_order nest columns a b =
    lex_systems columns (shared (loops_of nest a.part) (loops_of nest b.part)) a.iterators b.iterators [] (nat_lt (statement_of nest a.part) (statement_of nest b.part))

-- ---- The order of a schedule

abbrev pub forms_or_none : Option TimeMap → List Affine
forms_or_none None = []
forms_or_none (Some m) = m.forms

-- the components of an instance's time as forms
abbrev pub time_forms : Nest → List TimeMap → (columns : ℕ) → Posed → List Affine
time_forms nest maps columns a = map (form_at columns (columns_from columns 0 (length nest.params) ++ a.iterators)) (forms_or_none (slice_get maps (statement_of nest a.part)))

-- by the components of time, and then by the statements' numbers
abbrev pub target_order : Nest → Schedule → (columns : ℕ) → (first second : Posed) → List Rows
target_order nest Source columns a b = source_order nest columns a b
target_order nest (Time components maps) columns a b =
    lex_systems columns components (time_forms nest maps columns a) (time_forms nest maps columns b) [] (nat_lt (statement_of nest a.part) (statement_of nest b.part))

-- ---- Two parts, over the parameters, the first's coordinates and the second's

module _ (nest : Nest) (first second : ℕ) where
  abbrev pub pair_columns : ℕ
  pair_columns = (length nest.params + coordinates_of nest first) + coordinates_of nest second

  abbrev pub first_posed : Posed
  first_posed = record { part = first; iterators = columns_from pair_columns (length nest.params) (coordinates_of nest first) }

  abbrev pub second_posed : Posed
  second_posed = record { part = second; iterators = columns_from pair_columns (length nest.params + coordinates_of nest first) (coordinates_of nest second) }

  -- in the source the first is earlier
  abbrev pub source_systems : List Rows
  source_systems = source_order nest pair_columns first_posed second_posed

  -- in the target the first is earlier
  abbrev pub target_systems : Schedule → List Rows
  target_systems schedule = target_order nest schedule pair_columns first_posed second_posed

  -- in the target the second is earlier
  abbrev pub turned_systems : Schedule → List Rows
  turned_systems schedule = target_order nest schedule pair_columns second_posed first_posed
