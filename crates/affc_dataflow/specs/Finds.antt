-- The trees of all loads of a nest.
use Rattle.std.specs.Prelude.{◌≡◌, ℕ, ◌+◌, ◌<◌, ◌≤◌, ℤ, false, List, [], ◌∷◌, ◌++◌, length, Some, IfSome, slice_get}
use Rattle.std.specs.List.{All}
use Rattle.affc_ast.specs.declared.tree.Instance.{Instance}
use Rattle.affc_ast.specs.declared.tree.Program.{Program}
use Rattle.affc_ast.specs.Trace.{trace}
use Rattle.affc_trace.specs.Law.{IsIn}
use Rattle.affc_trace.specs.Laws.{IsInContext}
use Rattle.affc_nest.specs.declared.nest.Access.{Access}
use Rattle.affc_nest.specs.declared.nest.Entry.{Entry}
use Rattle.affc_nest.specs.declared.nest.Nest.{Nest}
use Rattle.affc_nest.specs.Parts.{coordinates}
use Rattle.affc_nest.specs.Laws.{HasNest, NamesArrays}
use Rattle.affc_nest.specs.Nests.{nest_of}
use Rattle.affc_quast.specs.Limits.{narrow, widest, Shaped, FitsTree, IsTreeWithin, AreTreesWithin}
use Rattle.affc_quast.specs.Paths.{IsNear}
use Rattle.affc_quast.specs.Sources.{loads_in, tree_of, NameSources, HaveNearQuotients}
use Rattle.affc_quast.specs.Trees.{Tree, Input, depth_of, named_at, quotients_at}
use Rattle.affc_flow.specs.Laws.{Loads, AreWritten}
use Rattle.affc_dataflow.specs.Searches.{IsRightAt}

-- ---- What is found

-- at p the trees name the sources of all loads, each load of a temporary has one, and quotients are within 2^60
pub record NameAllAt (program : Program) (p : List ℤ) (nest : Nest) (trees : List Tree) : Type 0 where
  pub sources : NameSources program p nest trees
  pub written : AreWritten program p nest trees
  pub near : HaveNearQuotients program p nest trees

-- they do throughout the context
abbrev pub NameAll : Nest → List Tree → Type 0
NameAll nest trees = (program : Program) (p : List ℤ) → nest ≡ nest_of program → HasNest program → NamesArrays program → IsInContext program p → NameAllAt program p nest trees

-- the trees of parts that can have no instances
abbrev pub AreInputs : Nest → List Tree → Type 0
AreInputs nest trees = (part load : ℕ) (e : Entry) (tree : Tree) → slice_get nest.entries part ≡ Some e → e.alive ≡ false → load < loads_in e → tree_of nest trees part load ≡ Some tree → tree ≡ Input

-- ---- Asked at a point

-- what `source_at` of affc_quast requires of a tree and a point
pub record MayBeAsked (tree : Tree) (point : List ℤ) : Type 0 where
  pub shaped : Shaped (length point) tree
  pub limits : FitsTree widest tree
  pub short : depth_of tree ≤ 400
  pub few : length point ≤ 128
  pub near : All IsNear point
  pub quotients : All IsNear (quotients_at tree point)
  pub iterators : IfSome (named_at tree point) (λ w. All IsNear w.iterators)

-- trees like those that are found may be asked at each instance of the context
abbrev pub FoundMayBeAsked : Type 0
FoundMayBeAsked = (program : Program) (p : List ℤ) (trees : List Tree) → HasNest program → NamesArrays program → IsInContext program p
    → NameAll (nest_of program) trees → AreTreesWithin narrow 302 12 (nest_of program) trees
    → (part load : ℕ) (e : Entry) (tree : Tree) (b : Instance) → slice_get (nest_of program).entries part ≡ Some e → load < loads_in e
    → tree_of (nest_of program) trees part load ≡ Some tree → b.statement ≡ part → IsIn b (trace program p) → MayBeAsked tree (p ++ b.iterators)

-- ---- One after the other

-- the tree of a load
pub record IsTreeFor (nest : Nest) (e : Entry) (x : Access) (tree : Tree) : Type 0 where
  pub right : (program : Program) (p iterators : List ℤ) → nest ≡ nest_of program → Loads program p iterators e x → IsRightAt program p iterators e x tree
  pub within : IsTreeWithin narrow 302 12 nest x.array.0 (length nest.params + coordinates e) tree
  pub none : e.alive ≡ false → tree ≡ Input

-- the trees of a part's accesses from some on; the last one, its store, has none
abbrev pub AreTreesOf : Nest → Entry → List Access → List Tree → Type 0
AreTreesOf nest e [] trees = trees ≡ []
AreTreesOf nest e (x ∷ []) trees = trees ≡ []
AreTreesOf nest e (x ∷ y ∷ ys) [] = ⊥
AreTreesOf nest e (x ∷ y ∷ ys) (t ∷ ts) = IsTreeFor nest e x t × AreTreesOf nest e (y ∷ ys) ts

-- the trees of parts from some on
abbrev pub AreTreesFrom : Nest → List Entry → List Tree → Type 0
AreTreesFrom nest [] trees = trees ≡ []
AreTreesFrom nest (e ∷ es) trees = (own : List Tree) × (others : List Tree) × (trees ≡ own ++ others) × AreTreesOf nest e e.accesses own × AreTreesFrom nest es others

-- such trees have been added
abbrev pub AddsTreesOf : Nest → Entry → List Access → (old new : List Tree) → Type 0
AddsTreesOf nest e accesses old new = (made : List Tree) × (new ≡ old ++ made) × AreTreesOf nest e accesses made

abbrev pub AddsTreesFrom : Nest → List Entry → (old new : List Tree) → Type 0
AddsTreesFrom nest entries old new = (made : List Tree) × (new ≡ old ++ made) × AreTreesFrom nest entries made
