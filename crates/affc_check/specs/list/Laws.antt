-- What is said of the parts of certificates.
use Rattle.std.specs.Prelude.{List}
use Rattle.affc_ast.specs.declared.tree.Program.{Program}
use Rattle.affc_nest.specs.Laws.{HasNest, NamesArrays}
use Rattle.affc_nest.specs.Nests.{nest_of}
use Rattle.affc_quast.specs.Trees.{Tree}
use Rattle.affc_life.specs.Laws.{AreFound}
use Rattle.affc_check.specs.list.Limits.{AnyPasses, HoldsOfNone}
use Rattle.affc_check.specs.list.Passes.{items_by_tree}

-- No part of trees that the search gives has a question that passes the limits of a system.
abbrev pub FoundTreesPassNoPart : Type 0
FoundTreesPassNoPart = (program : Program) (trees : List Tree)
    → HasNest program → NamesArrays program → AreFound (nest_of program) trees
    → HoldsOfNone AnyPasses (items_by_tree (nest_of program) trees)
