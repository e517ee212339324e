-- Clash systems as the code makes them, before their limits are looked at.
use Rattle.std.specs.Prelude.{ℕ, nat_eq, if◌then◌else◌, List, [], ◌++◌, map, slice_get}
use Rattle.std.specs.List.{All}
use Rattle.affc_rows.specs.Forms.{Affine, HaveColumns}
use Rattle.affc_system.specs.Pairs.{IsSubscript}
use Rattle.affc_system.specs.Systems.{Rows}
use Rattle.affc_trace.specs.declared.schedule.Schedule.{Schedule}
use Rattle.affc_nest.specs.declared.nest.Entry.{Entry}
use Rattle.affc_nest.specs.declared.nest.Nest.{Nest}
use Rattle.affc_order.specs.Asked.{IsScheduled}
use Rattle.affc_order.specs.Posed.{Posed}
use Rattle.affc_order.specs.Systems.{target_order}
use Rattle.affc_quast.specs.declared.leaves.Named.{Named}
use Rattle.affc_quast.specs.Leaves.{Leaf}
use Rattle.affc_products.specs.Blocks.{choices}
use Rattle.affc_life.specs.declared.draft.Draft.{Draft}
use Rattle.affc_life.specs.declared.draft.Walking.{Walking}
use Rattle.affc_nest.specs.declared.nest.Access.{Access}
use Rattle.affc_quast.specs.Trees.{Tree}
use Rattle.affc_life.specs.Clashes.{Clash, Walk, clash_columns, named_posed, writer_posed, reader_posed, clashes_of_named, clashes_of_tree}

-- the clash system with these rows behind the front
abbrev pub draft_by : Draft → (rows : List Affine) → Clash
draft_by d rows = record { system = record { columns = d.columns; rows = d.front.items ++ rows }; ranges = d.ranges; x = d.x.items; y = d.y.items }

-- those of a draft
abbrev pub drafted : Draft → List Clash
drafted d = map (draft_by d) (choices d.factors)

-- its rows and its subscripts are over its columns
pub record IsPaired (c : Clash) : Type 0 where
  pub width : HaveColumns c.system.columns c.system.rows
  pub first : All (IsSubscript c.system.columns) c.x
  pub second : All (IsSubscript c.system.columns) c.y

-- the instance that a leaf in code names
abbrev pub instance_named : Named → Posed
instance_named a = record { part = a.part; iterators = a.forms }

-- the schedule runs the store after the named instance, and before the load
abbrev pub after_named : Nest → Schedule → (reader : Entry) → Leaf → (named : Posed) → (writer : Entry) → List Rows
after_named nest schedule reader leaf named writer =
    target_order nest schedule (clash_columns nest reader leaf writer) (named_posed nest reader leaf writer named) (writer_posed nest reader leaf writer)

abbrev pub before_load : Nest → Schedule → (reader : Entry) → Leaf → (writer : Entry) → List Rows
before_load nest schedule reader leaf writer =
    target_order nest schedule (clash_columns nest reader leaf writer) (writer_posed nest reader leaf writer) (reader_posed nest reader leaf writer)

-- both schedules are the nest's
pub record AreScheduled (asked : Walking) : Type 0 where
  pub after : IsScheduled asked.nest.now asked.after.now
  pub before : IsScheduled asked.nest.now asked.before.now

-- the walk that is asked for
abbrev pub walk_of : Walking → Walk
walk_of asked = record {
  loaded = asked.loaded.0;
  stored = asked.stored.0;
  after = target_order asked.nest.now asked.after.now;
  before = target_order asked.nest.now asked.before.now;
  differ = asked.differ;
}

-- the clash systems of a leaf, and of a load with its number, where the loads of its part have these trees
abbrev pub clashes_of_leaf : Nest → Walk → (reader : Entry) → (load : Access) → Leaf → List Clash
clashes_of_leaf nest walk reader load leaf = clashes_of_named nest walk reader load leaf leaf.named

abbrev pub clashes_of_load : Nest → Walk → (reader : Entry) → List Tree → ℕ × Access → List Clash
clashes_of_load nest walk reader trees x = if nat_eq x.1.array.0 walk.loaded then clashes_of_tree nest walk reader x.1 (slice_get trees x.0) else []
