-- Trees within the limits of a certificate's.
use Rattle.affc_cert.specs.tree.Trees.{loops_at}
use Rattle.affc_cert.specs.declared.tree.layout.Load.{Load}
use Rattle.affc_cert.specs.declared.tree.layout.Store.{Store}
use Rattle.affc_certvalue.specs.Limits.{IsWord}
use Rattle.affc_quast.specs.Limits.{Shaped, FitsTree, widest}
use Rattle.affc_quast.specs.Trees.{Tree, Test, Div, Source, Input, depth_of}
use Rattle.std.specs.Prelude.{◌≡◌, ◌≤◌, pos, List, length, Some}

-- each leaf that names a statement names one of these, with a form for each of its loops
abbrev pub NamesStores : List Store → Tree → Type 0
NamesStores stores (Test f on off) = NamesStores stores on × NamesStores stores off
NamesStores stores (Div f by rest) = NamesStores stores rest
NamesStores stores (Source s forms) = IsWord (pos s) × (loops_at s stores ≡ Some (length forms))
NamesStores stores Input = Unit {0}

-- a tree over a load's columns within the widest limits of trees, with at most 400 tests and divisions on a path
pub record IsTreeWithin (load : Load) (tree : Tree) : Type 0 where
  pub shaped : Shaped load.columns tree
  pub fits : FitsTree widest tree
  pub short : depth_of tree ≤ 400
  pub named : NamesStores load.stores tree
