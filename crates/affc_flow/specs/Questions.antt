-- Whether a tree names the source of a load at each instance, as questions: systems that have no integer point where it does.
use Rattle.std.specs.Prelude.{ℕ, ◌+◌, ◌-◌, nat_eq, ℤ, Bool, true, false, ◌&&◌, if◌then◌else◌, List, [], ◌∷◌, ◌++◌, map, flat_map, length, drop, Option, Some, None, slice_get}
use Rattle.affc_rows.specs.Forms.{Affine}
use Rattle.affc_system.specs.Systems.{Rows}
use Rattle.affc_ast.specs.declared.tree.Rel.TheVariants.{Less, Greater}
use Rattle.affc_ast.specs.declared.tree.Role.{Role}
use Rattle.affc_ast.specs.declared.tree.Role.TheVariants.{Temp}
use Rattle.affc_trace.specs.Inverses.{columns_from}
use Rattle.affc_nest.specs.Domains.{compare_rows}
use Rattle.affc_nest.specs.declared.nest.Access.{Access}
use Rattle.affc_nest.specs.declared.nest.ArrayInfo.{ArrayInfo}
use Rattle.affc_nest.specs.declared.nest.Entry.{Entry}
use Rattle.affc_nest.specs.declared.nest.Nest.{Nest}
use Rattle.affc_nest.specs.Parts.{coordinates, statement_of}
use Rattle.affc_order.specs.Posed.{Posed, form_at}
use Rattle.affc_order.specs.Spread.{spread}
use Rattle.affc_order.specs.Systems.{source_order}
use Rattle.affc_sched.specs.Questions.{equal_rows, context_count}
use Rattle.affc_quast.specs.Leaves.{padded, negated, Leaf, leaves_of, path_ranges}
use Rattle.affc_quast.specs.Sources.{loads_in, tree_of}
use Rattle.affc_quast.specs.Trees.{Tree}

-- A system over the parameters, the coordinates of the load's part, the quotients of the leaf and, where another store is asked
-- of, its coordinates; and the ranges of these columns.
pub record Question : Type 0 where
  pub system : Rows
  pub ranges : List (ℤ × ℤ)

-- ---- Stores

abbrev pub is_temp : Role → Bool
is_temp Temp = true
is_temp _ = false

abbrev pub is_temporary_info : Option ArrayInfo → Bool
is_temporary_info None = false
is_temporary_info (Some a) = is_temp a.role

-- whether this array is a temporary
abbrev pub is_temporary : Nest → (array : ℕ) → Bool
is_temporary nest array = is_temporary_info (slice_get nest.arrays array)

-- an assignment's store
abbrev pub store_of_entry : Entry → Option Access
store_of_entry e = slice_get e.accesses (loads_in e)

-- a part and its store
abbrev pub Writer : Type 0
Writer = Entry × Access

abbrev pub writer_if : (array : ℕ) → Entry → Option Access → List Writer
writer_if array e None = []
writer_if array e (Some y) = if nat_eq y.array.0 array then (e, y) ∷ [] else []

-- the parts that can have instances and store this array
abbrev pub writers : Nest → (array : ℕ) → List Writer
writers nest array = flat_map (λ e. if e.alive then writer_if array e (store_of_entry e) else []) nest.entries

-- whether it is an instance of this part
abbrev pub poses : Posed → Entry → Bool
poses a w = nat_eq w.part a.part && nat_eq (length a.iterators) (coordinates w)

-- ---- The questions of a leaf of the tree of a load, where the parameters and the coordinates of its part have these ranges

module _ (nest : Nest) (reader : Entry) (load : Access) (ranges : List (ℤ × ℤ)) (leaf : Leaf) where
  -- over so many columns: the part's domain, and the rows of the tests and divisions above the leaf
  abbrev pub path_rows : (columns : ℕ) → List Affine
  path_rows columns = map (padded columns) (reader.domain.rows ++ leaf.rows)

  abbrev pub reader_posed : (columns : ℕ) → Posed
  reader_posed columns = record { part = reader.part; iterators = columns_from columns (length nest.params) (coordinates reader) }

  -- the path, and these rows
  abbrev pub here : List Affine → Question
  here rows = record { system = record { columns = leaf.columns; rows = path_rows leaf.columns ++ rows }; ranges = path_ranges ranges leaf.divisions }

  -- ---- with an instance of a part that stores the array

  module _ (v : Entry) (y : Access) where
    abbrev pub beside_columns : ℕ
    beside_columns = leaf.columns + coordinates v

    -- a form of that part
    abbrev pub of_writer : Affine → Affine
    of_writer = spread (length nest.params) (leaf.columns - length nest.params) 0

    abbrev pub writer_posed : Posed
    writer_posed = record { part = v.part; iterators = columns_from beside_columns leaf.columns (coordinates v) }

    -- the path, that part's domain, and equal subscripts
    abbrev pub beside_rows : List Affine
    beside_rows =
        path_rows beside_columns
        ++ (map of_writer (drop (context_count nest) v.domain.rows) ++ equal_rows (map (padded beside_columns) load.subs) (map of_writer y.subs))

    abbrev pub beside : List Affine → Question
    beside rows = record { system = record { columns = beside_columns; rows = beside_rows ++ rows }; ranges = path_ranges ranges leaf.divisions ++ v.ranges }

    -- the systems of its being earlier than the load
    abbrev pub before_load : List Rows
    before_load = source_order nest beside_columns writer_posed (reader_posed beside_columns)

    -- ---- a leaf that names no instance: the other is earlier

    abbrev pub earlier_questions : List Question
    earlier_questions = map (λ u. beside u.rows) before_load

    -- ---- a leaf that names an instance: the other is later than that and earlier than the load

    abbrev pub after_named : Posed → List Rows
    after_named a = source_order nest beside_columns (record a { iterators = map (padded beside_columns) a.iterators }) writer_posed

    abbrev pub between_questions : Posed → List Question
    between_questions a = flat_map (λ o. map (λ u. beside (o.rows ++ u.rows)) before_load) (after_named a)

  -- ---- The instance that is named: of its part w, whose store is z

  module _ (a : Posed) (w : Entry) (z : Access) where
    -- a form of w at the instance
    abbrev pub of_named : Affine → Affine
    of_named = form_at leaf.columns (columns_from leaf.columns 0 (length nest.params) ++ a.iterators)

    -- it lies outside w's domain
    abbrev pub outside_questions : List Question
    outside_questions = map (λ r. here (negated (of_named r) ∷ [])) w.domain.rows

    -- what it writes differs in some dimension from what is read
    abbrev pub apart_questions : (written read : List Affine) → List Question
    apart_questions (f ∷ fs) (g ∷ gs) = here (compare_rows Greater f g) ∷ here (compare_rows Less f g) ∷ apart_questions fs gs
    apart_questions _ _ = []

    -- the load's instance is earlier, or is the same
    abbrev pub not_earlier_questions : List Question
    not_earlier_questions =
        map (λ o. here o.rows) (source_order nest leaf.columns (reader_posed leaf.columns) a)
        ++ (if nat_eq reader.statement (statement_of nest a.part) then here (equal_rows (reader_posed leaf.columns).iterators a.iterators) ∷ [] else [])

    abbrev pub named_questions : List Question
    named_questions =
        outside_questions
        ++ (apart_questions (map of_named z.subs) (map (padded leaf.columns) load.subs)
        ++ (not_earlier_questions ++ flat_map (λ (v : Writer). between_questions v.0 v.1 a) (writers nest load.array.0)))

  -- where no such part is named, with a form for each of its coordinates, the path alone
  abbrev pub questions_among : Posed → List Writer → List Question
  questions_among a [] = here [] ∷ []
  questions_among a (w ∷ ws) = if poses a w.0 then named_questions a w.0 w.1 else questions_among a ws

  -- where the leaf names none, a temporary has no such load
  abbrev pub input_questions : List Question
  input_questions = if is_temporary nest load.array.0 then here [] ∷ [] else flat_map (λ (v : Writer). earlier_questions v.0 v.1) (writers nest load.array.0)

  abbrev pub questions_for : Option Posed → List Question
  questions_for None = input_questions
  questions_for (Some a) = questions_among a (writers nest load.array.0)

  abbrev pub leaf_questions : List Question
  leaf_questions = questions_for leaf.named

-- ---- The questions of a tree, and of the trees of all loads

abbrev pub tree_questions : Nest → (reader : Entry) → (load : Access) → (ranges : List (ℤ × ℤ)) → Tree → List Question
tree_questions nest reader load ranges tree = flat_map (leaf_questions nest reader load ranges) (leaves_of (length nest.params + coordinates reader) tree)

abbrev pub questions_of_load : Nest → Entry → Access → Option Tree → List Question
questions_of_load nest reader load None = []
questions_of_load nest reader load (Some tree) = tree_questions nest reader load (nest.params ++ reader.ranges) tree

-- loads from this number on; the store, which is the last access, has no tree
abbrev pub questions_of_loads : Nest → List Tree → Entry → (load : ℕ) → List Access → List Question
questions_of_loads nest trees reader load [] = []
questions_of_loads nest trees reader load (x ∷ []) = []
questions_of_loads nest trees reader load (x ∷ y ∷ ys) =
    questions_of_load nest reader x (tree_of nest trees reader.part load) ++ questions_of_loads nest trees reader (load + 1) (y ∷ ys)

-- a part that can have no instances asks nothing
abbrev pub flow_questions : Nest → List Tree → List Question
flow_questions nest trees = flat_map (λ e. if e.alive then questions_of_loads nest trees e 0 e.accesses else []) nest.entries
