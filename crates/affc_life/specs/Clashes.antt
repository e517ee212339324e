-- The elements of an array that are live together (Lefebvre and Feautrier 1998; Darte, Schreiber and Villard 2005), as
-- systems: for each load and each leaf of its tree, each store that the schedule may run between the instance that the leaf
-- names and the load. They are sought by a walk, which may be over the loads of one array and the stores of another, and
-- between any two orders.
use Rattle.std.specs.Prelude.{ℕ, suc, ◌+◌, ◌-◌, nat_eq, ℤ, if◌then◌else◌, Bool, true, false, List, [], ◌∷◌, ◌++◌, map, flat_map, length, drop, Option, Some, None, slice_get}
use Rattle.affc_rows.specs.Forms.{Affine}
use Rattle.affc_system.specs.Systems.{Rows}
use Rattle.affc_system.specs.declared.pairs.PairSystem.{PairSystem}
use Rattle.affc_ast.specs.declared.tree.Rel.TheVariants.{Less, Greater, Equal}
use Rattle.affc_trace.specs.declared.schedule.Schedule.{Schedule}
use Rattle.affc_trace.specs.Inverses.{columns_from}
use Rattle.affc_nest.specs.Domains.{compare_rows}
use Rattle.affc_nest.specs.declared.nest.Access.{Access}
use Rattle.affc_nest.specs.declared.nest.Entry.{Entry}
use Rattle.affc_nest.specs.declared.nest.Nest.{Nest}
use Rattle.affc_nest.specs.Parts.{coordinates}
use Rattle.affc_order.specs.Posed.{Posed}
use Rattle.affc_order.specs.Spread.{spread}
use Rattle.affc_order.specs.Systems.{target_order}
use Rattle.affc_sched.specs.Questions.{context_count}
use Rattle.affc_quast.specs.Leaves.{padded, Leaf, leaves_of, path_ranges}
use Rattle.affc_quast.specs.Sources.{loads_in, tree_of}
use Rattle.affc_quast.specs.Trees.{Tree}

-- A system over the columns of a leaf and then the coordinates of a store, the ranges of these columns, and the subscripts of
-- the element that is loaded and of the one that is stored.
pub record Clash : Type 0 where
  pub system : Rows
  pub ranges : List (ℤ × ℤ)
  pub x : List Affine
  pub y : List Affine

-- a pair system as the code holds it
abbrev pub clash_of : PairSystem → Clash
clash_of s = record { system = s.system; ranges = s.ranges; x = s.x.items; y = s.y.items }

-- ---- Walks

-- the systems of what an order says of two instances, over so many columns
abbrev pub Order : Type 0
Order = ℕ → Posed → Posed → List Rows

-- The array whose loads are walked, the array whose stores are, the order in which a store is after the instance that a leaf
-- names and the one in which it is before the load, and whether the two elements have to have different subscripts.
pub record Walk : Type 0 where
  pub loaded : ℕ
  pub stored : ℕ
  pub after : Order
  pub before : Order
  pub differ : Bool

-- live pairs: elements of one array that differ, in the order of a schedule
abbrev pub live_walk : Nest → Schedule → (array : ℕ) → Walk
live_walk nest schedule array = record { loaded = array; stored = array; after = target_order nest schedule; before = target_order nest schedule; differ = true }

-- ---- Rows

-- Behind these rows, two lists of forms differ: they are equal in turn up to some place, at which the first is less, or greater.
abbrev pub apart_rows : (fs gs rows : List Affine) → List (List Affine)
apart_rows [] gs rows = []
apart_rows (f ∷ fs) [] rows = []
apart_rows (f ∷ fs) (g ∷ gs) rows = (rows ++ compare_rows Less f g) ∷ (rows ++ compare_rows Greater f g) ∷ apart_rows fs gs (rows ++ compare_rows Equal f g)

-- the same if they have to differ, and else these rows
abbrev pub differing : (differ : Bool) → (fs gs rows : List Affine) → List (List Affine)
differing true fs gs rows = apart_rows fs gs rows
differing false fs gs rows = rows ∷ []

-- the same behind the rows of each of these systems and of each of those
abbrev pub between_rows : (differ : Bool) → (rows : List Affine) → (first second : List Rows) → (fs gs : List Affine) → List (List Affine)
between_rows differ rows first second fs gs = flat_map (λ o. flat_map (λ u. differing differ fs gs (rows ++ (o.rows ++ u.rows))) second) first

-- ---- A load of one part, a leaf of its tree, and a store by another

module _ (nest : Nest) (reader : Entry) (leaf : Leaf) (writer : Entry) where
  abbrev pub clash_columns : ℕ
  clash_columns = leaf.columns + coordinates writer

  -- a form of the reader or of the leaf, and one of the writer
  abbrev pub of_reader : Affine → Affine
  of_reader = padded clash_columns

  abbrev pub of_writer : Affine → Affine
  of_writer = spread (length nest.params) (leaf.columns - length nest.params) 0

  abbrev pub reader_posed : Posed
  reader_posed = record { part = reader.part; iterators = columns_from clash_columns (length nest.params) (coordinates reader) }

  abbrev pub named_posed : Posed → Posed
  named_posed a = record a { iterators = map of_reader a.iterators }

  abbrev pub writer_posed : Posed
  writer_posed = record { part = writer.part; iterators = columns_from clash_columns leaf.columns (coordinates writer) }

  -- the reader's domain, the leaf, and the writer's domain; the rows of the parameters and of the context stand once
  abbrev pub front_rows : List Affine
  front_rows = map of_reader (reader.domain.rows ++ leaf.rows) ++ map of_writer (drop (context_count nest) writer.domain.rows)

  abbrev pub clash_ranges : List (ℤ × ℤ)
  clash_ranges = path_ranges (nest.params ++ reader.ranges) leaf.divisions ++ writer.ranges

  module _ (walk : Walk) (load : Access) (named : Posed) (store : Access) where
    -- the store is after the named instance, and before the load; and the two elements differ if they have to
    abbrev pub rows_of_clashes : List (List Affine)
    rows_of_clashes =
        between_rows walk.differ front_rows (walk.after clash_columns (named_posed named) writer_posed) (walk.before clash_columns writer_posed reader_posed)
        (map of_reader load.subs) (map of_writer store.subs)

    abbrev pub clash : (rows : List Affine) → Clash
    clash rows = record {
      system = record { columns = clash_columns; rows = rows };
      ranges = clash_ranges;
      x = map of_reader load.subs;
      y = map of_writer store.subs;
    }

    abbrev pub clashes_of_store : List Clash
    clashes_of_store = map clash rows_of_clashes

-- ---- All of them: per load of the one array and leaf that names an instance, per store of the other

-- the loads among an assignment's accesses, all but the last, each with its number
abbrev pub numbered_loads : (first : ℕ) → List Access → List (ℕ × Access)
numbered_loads first [] = []
numbered_loads first (x ∷ []) = []
numbered_loads first (x ∷ y ∷ xs) = (first, x) ∷ numbered_loads (suc first) (y ∷ xs)

module _ (nest : Nest) (walk : Walk) where
  module _ (reader : Entry) (load : Access) (leaf : Leaf) where
    abbrev pub clashes_by : Posed → Entry → Option Access → List Clash
    clashes_by named writer None = []
    clashes_by named writer (Some store) = if nat_eq store.array.0 walk.stored then clashes_of_store nest reader leaf writer walk load named store else []

    abbrev pub clashes_with : Posed → Entry → List Clash
    clashes_with named writer = if writer.alive then clashes_by named writer (slice_get writer.accesses (loads_in writer)) else []

    abbrev pub clashes_of_named : Option Posed → List Clash
    clashes_of_named None = []
    clashes_of_named (Some named) = flat_map (clashes_with named) nest.entries

  abbrev pub clashes_of_tree : Entry → Access → Option Tree → List Clash
  clashes_of_tree reader load None = []
  clashes_of_tree reader load (Some tree) = flat_map (λ leaf. clashes_of_named reader load leaf leaf.named) (leaves_of (length nest.params + coordinates reader) tree)

  abbrev pub clashes_of_entry : List Tree → Entry → List Clash
  clashes_of_entry trees reader =
      if reader.alive
      then flat_map (λ load. if nat_eq load.1.array.0 walk.loaded then clashes_of_tree reader load.1 (tree_of nest trees reader.part load.0) else []) (numbered_loads 0 reader.accesses)
      else []

-- the clash systems of a walk, where the loads have these trees, parts and loads in order
abbrev pub clashes_of : Nest → List Tree → Walk → List Clash
clashes_of nest trees walk = flat_map (clashes_of_entry nest walk trees) nest.entries

-- those of an array under a schedule: its live pairs
abbrev pub clashes : Nest → List Tree → Schedule → (array : ℕ) → List Clash
clashes nest trees schedule array = clashes_of nest trees (live_walk nest schedule array)
