-- Which trees name the sources of a program's loads.
use Rattle.std.specs.Prelude.{◌≡◌, ℕ, zero, suc, ◌+◌, ◌-◌, ◌^◌, ◌<◌, ◌≤◌, ℤ, unsigned_abs, List, [], ◌∷◌, ◌++◌, length, Option, Some, slice_get}
use Rattle.std.specs.List.{All}
use Rattle.affc_ast.specs.declared.tree.Instance.{Instance}
use Rattle.affc_ast.specs.declared.tree.Program.{Program}
use Rattle.affc_ast.specs.Store.{Element}
use Rattle.affc_ast.specs.Trace.{trace, loads_of}
use Rattle.affc_trace.specs.Dataflow.{IsSource}
use Rattle.affc_trace.specs.Law.{IsIn}
use Rattle.affc_nest.specs.declared.nest.Entry.{Entry}
use Rattle.affc_nest.specs.declared.nest.Nest.{Nest}
use Rattle.affc_quast.specs.Trees.{Tree, named_at, quotients_at}

-- At p, the tree names at each instance of the part the source of this load: the instance that stored what it reads, or
-- none where nothing did.
abbrev pub NamesSource : Program → (p : List ℤ) → (part load : ℕ) → Tree → Type 0
NamesSource program p part load tree = (b : Instance) (x : Element) → b.statement ≡ part → IsIn b (trace program p) → slice_get (loads_of program p b) load ≡ Some x
    → IsSource program p b x (named_at tree (p ++ b.iterators))

-- ---- The trees of all loads

-- an assignment's accesses are its loads and then its store
abbrev pub loads_in : Entry → ℕ
loads_in e = length e.accesses - 1

-- how many loads stand in the statements before this one
abbrev pub loads_before : List Entry → (part : ℕ) → ℕ
loads_before [] statement = 0
loads_before (e ∷ es) zero = 0
loads_before (e ∷ es) (suc part) = loads_in e + loads_before es part

-- the tree of a load, where they stand by statements and loads in order
abbrev pub tree_of : Nest → List Tree → (part load : ℕ) → Option Tree
tree_of nest trees part load = slice_get trees (loads_before nest.entries part + load)

-- the trees of a nest name the sources at p
abbrev pub NameSources : Program → (p : List ℤ) → Nest → List Tree → Type 0
NameSources program p nest trees = (part load : ℕ) (e : Entry) → slice_get nest.entries part ≡ Some e → load < loads_in e
    → (tree : Tree) × (tree_of nest trees part load ≡ Some tree) × NamesSource program p part load tree

-- ---- Quotients

-- At p, the quotients on the way of each instance of the part are within 2^60.
abbrev pub HasNearQuotients : Program → (p : List ℤ) → (part : ℕ) → Tree → Type 0
HasNearQuotients program p part tree = (b : Instance) → b.statement ≡ part → IsIn b (trace program p) → All (λ q. unsigned_abs q ≤ 2 ^ 60) (quotients_at tree (p ++ b.iterators))

abbrev pub HaveNearQuotients : Program → (p : List ℤ) → Nest → List Tree → Type 0
HaveNearQuotients program p nest trees = (part load : ℕ) (e : Entry) (tree : Tree) → slice_get nest.entries part ≡ Some e → load < loads_in e → tree_of nest trees part load ≡ Some tree
    → HasNearQuotients program p part tree
