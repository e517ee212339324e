-- The loads of a program, each with its tree, as parts of a certificate.
use Rattle.std.specs.Prelude.{◌≡◌, ◌+◌, nat_eq, if◌then◌else◌, List, [], ◌++◌, length, map, flat_map, Option, Some, None}
use Rattle.affc_trace.specs.Law.{IsIn}
use Rattle.affc_nest.specs.Parts.{coordinates}
use Rattle.affc_nest.specs.declared.nest.Nest.{Nest}
use Rattle.affc_sched.specs.Touched.{Each}
use Rattle.affc_quast.specs.Seen.{seen}
use Rattle.affc_quast.specs.Trees.{Tree}
use Rattle.affc_life.specs.Asked.{KeepsLimits, IsLiving}
use Rattle.affc_life.specs.Clashes.{Clash, Walk, clashes_of_tree, clashes_of}
use Rattle.affc_check.specs.list.Items.{Item}
use Rattle.affc_check.specs.list.Passes.{items_by_tree}
use Rattle.affc_check.specs.list.Walks.{load_items}
use Rattle.affc_check.specs.declared.list.item.Loaded.{Loaded}

-- the items of a part
abbrev pub part_said : Nest → Option Loaded → List Item
part_said nest None = []
part_said nest (Some l) = load_items nest l.reader.now l.load.now (Some (seen l.tree.now))

-- the load of a statement that can have instances, whose tree keeps the limits
pub record IsLoaded (nest : Nest) (l : Loaded) : Type 0 where
  pub reads : IsLiving nest l.reader.now
  pub load : IsIn l.load.now l.reader.now.accesses
  pub tree : KeepsLimits nest (length nest.params + coordinates l.reader.now) (seen l.tree.now)

abbrev pub IsPart : Nest → Option Loaded → Type 0
IsPart nest None = Unit {0}
IsPart nest (Some l) = IsLoaded nest l

-- the clash systems of a part, if its load is one of the array that is walked
abbrev pub part_clashes : Nest → Walk → Option Loaded → List Clash
part_clashes nest walk None = []
part_clashes nest walk (Some l) = if nat_eq l.load.now.array.0 walk.loaded then clashes_of_tree nest walk l.reader.now l.load.now (Some (seen l.tree.now)) else []

-- parts with these items and these clash systems are put behind
pub record PartsPut (nest : Nest) (items : List (List Item)) (made : Walk → List Clash) (old new : List (Option Loaded)) : Type 0 where
  pub said : map (part_said nest) new ≡ map (part_said nest) old ++ items
  pub clashing : (walk : Walk) → flat_map (part_clashes nest walk) new ≡ flat_map (part_clashes nest walk) old ++ made walk
  pub each : Each (IsPart nest) old → Each (IsPart nest) new

-- these are the parts of trees
pub record AreTreeParts (nest : Nest) (trees : List Tree) (parts : List (Option Loaded)) : Type 0 where
  pub said : map (part_said nest) parts ≡ items_by_tree nest trees
  pub clashing : (walk : Walk) → flat_map (part_clashes nest walk) parts ≡ clashes_of nest trees walk
  pub each : Each (IsPart nest) parts
