-- What the questions on trees decide.
use Rattle.std.specs.List.{All}
use Rattle.std.specs.Prelude.{◌≡◌, ℕ, ◌+◌, ◌<◌, ℤ, IsTrue, List, ◌++◌, length, Option, Some, slice_get}
use Rattle.affc_system.specs.Boxes.{InBox}
use Rattle.affc_system.specs.Systems.{Met, IsPoint, HasNoPoint}
use Rattle.affc_ast.specs.declared.tree.Instance.{Instance}
use Rattle.affc_ast.specs.declared.tree.Program.{Program}
use Rattle.affc_ast.specs.Trace.{trace}
use Rattle.affc_trace.specs.Dataflow.{IsSource}
use Rattle.affc_trace.specs.Law.{IsIn}
use Rattle.affc_trace.specs.Laws.{IsInContext}
use Rattle.affc_nest.specs.declared.nest.Access.{Access}
use Rattle.affc_nest.specs.declared.nest.Entry.{Entry}
use Rattle.affc_nest.specs.declared.nest.Nest.{Nest}
use Rattle.affc_nest.specs.Laws.{HasNest, IsEntry, NamesArrays, element_at}
use Rattle.affc_nest.specs.Nests.{nest_of}
use Rattle.affc_quast.specs.Leaves.{Leaf, path_ranges}
use Rattle.affc_quast.specs.Laws.{IsOver}
use Rattle.affc_quast.specs.Limits.{Shaped, HaveShapes}
use Rattle.affc_quast.specs.Paths.{IsNear}
use Rattle.affc_quast.specs.Sources.{loads_in, tree_of, NameSources, HaveNearQuotients}
use Rattle.affc_quast.specs.Trees.{Tree, instance_at, named_at, quotients_at}
use Rattle.affc_flow.specs.Questions.{Question, is_temporary, leaf_questions, tree_questions, flow_questions}

-- ---- A load at an instance

-- at p of the context, the load x of the instance with these iterators, of the part of e
pub record Loads (program : Program) (p iterators : List ℤ) (e : Entry) (x : Access) : Type 0 where
  pub has : HasNest program
  pub named : NamesArrays program
  pub context : IsInContext program p
  pub entry : IsEntry program e.part e
  pub made : IsIn x e.accesses
  pub runs : IsIn (record { statement = e.part; iterators = iterators }) (trace program p)

-- this is the source of the load, and a load of a temporary has one
pub record IsSourceOf (program : Program) (p iterators : List ℤ) (e : Entry) (x : Access) (source : Option Instance) : Type 0 where
  pub is : IsSource program p (record { statement = e.part; iterators = iterators }) (element_at (p ++ iterators) x) source
  pub written : IsTrue (is_temporary (nest_of program) x.array.0) → (w : Instance) × (source ≡ Some w)

-- ---- Leaves

-- no question has a point in its ranges that begins with these numbers
abbrev pub NoneBegins : List Question → List ℤ → Type 0
NoneBegins questions zs = (q : Question) (more : List ℤ) → IsIn q questions → IsPoint q.system (zs ++ more) → InBox q.ranges (zs ++ more) → ⊥

-- A leaf names the source of a load at each point of its rows with which no point of its questions begins.
abbrev pub LeafNamesSource : Type 0
LeafNamesSource = (program : Program) (p iterators qs : List ℤ) (e : Entry) (x : Access) (ranges : List (ℤ × ℤ)) (leaf : Leaf)
    → Loads program p iterators e x → IsOver (length p + length iterators) leaf
    → length ((p ++ iterators) ++ qs) ≡ leaf.columns → Met ((p ++ iterators) ++ qs) leaf.rows
    → InBox (path_ranges ranges leaf.divisions) ((p ++ iterators) ++ qs)
    → NoneBegins (leaf_questions (nest_of program) e x ranges leaf) ((p ++ iterators) ++ qs)
    → IsSourceOf program p iterators e x (instance_at leaf.named ((p ++ iterators) ++ qs))

-- ---- Trees

-- no question has a point in its ranges
abbrev pub NoneHasAPoint : List Question → Type 0
NoneHasAPoint questions = (q : Question) → IsIn q questions → (point : List ℤ) → InBox q.ranges point → IsPoint q.system point → ⊥

-- A tree none of whose questions has a point names the source of the load at each instance in these ranges whose quotients are
-- within 2^60.
abbrev pub TreeNamesSource : Type 0
TreeNamesSource = (program : Program) (p iterators : List ℤ) (e : Entry) (x : Access) (ranges : List (ℤ × ℤ)) (tree : Tree)
    → Loads program p iterators e x → Shaped (length p + length iterators) tree
    → InBox ranges (p ++ iterators) → All IsNear (quotients_at tree (p ++ iterators))
    → NoneHasAPoint (tree_questions (nest_of program) e x ranges tree)
    → IsSourceOf program p iterators e x (named_at tree (p ++ iterators))

-- Where no question has a point, the trees of all loads name the sources throughout the context, if quotients are within 2^60.
abbrev pub FlowNamesSources : Type 0
FlowNamesSources = (program : Program) (p : List ℤ) (trees : List Tree)
    → HasNest program → NamesArrays program → IsInContext program p
    → HaveShapes (nest_of program) trees → HaveNearQuotients program p (nest_of program) trees
    → NoneHasAPoint (flow_questions (nest_of program) trees)
    → NameSources program p (nest_of program) trees

-- at p the tree of each load of a temporary names an instance
abbrev pub AreWritten : Program → (p : List ℤ) → Nest → List Tree → Type 0
AreWritten program p nest trees = (part load : ℕ) (e : Entry) (x : Access) (tree : Tree) (b : Instance)
    → slice_get nest.entries part ≡ Some e → load < loads_in e → slice_get e.accesses load ≡ Some x → IsTrue (is_temporary nest x.array.0)
    → tree_of nest trees part load ≡ Some tree → b.statement ≡ part → IsIn b (trace program p) → (w : Instance) × (named_at tree (p ++ b.iterators) ≡ Some w)

-- Where no question has a point anywhere, the trees of all loads name the sources throughout the context, and those of the
-- loads of temporaries name one, whatever the quotients are.
abbrev pub FlowNamesAll : Type 0
FlowNamesAll = (program : Program) (p : List ℤ) (trees : List Tree)
    → HasNest program → NamesArrays program → IsInContext program p
    → HaveShapes (nest_of program) trees
    → ((q : Question) → IsIn q (flow_questions (nest_of program) trees) → HasNoPoint q.system)
    → NameSources program p (nest_of program) trees × AreWritten program p (nest_of program) trees
