-- What is said of the questions of trees that the search gives.
use Rattle.affc_ast.specs.declared.tree.Program.{Program}
use Rattle.affc_trace.specs.Law.{IsIn}
use Rattle.affc_nest.specs.Laws.{HasNest, NamesArrays}
use Rattle.affc_nest.specs.Nests.{nest_of}
use Rattle.affc_quast.specs.Trees.{Tree}
use Rattle.affc_flow.specs.Questions.{Question, flow_questions}
use Rattle.affc_life.specs.Laws.{AreFound}
use Rattle.affc_products.specs.Parts.{IsWithin}
use Rattle.std.specs.Prelude.{List}

-- No question of such trees passes the limits of a system. A schedule has no part in these questions.
abbrev pub FoundTreesPassNoLimit : Type 0
FoundTreesPassNoLimit = (program : Program) (trees : List Tree) (q : Question)
    → HasNest program → NamesArrays program → AreFound (nest_of program) trees
    → IsIn q (flow_questions (nest_of program) trees) → IsWithin q.system
