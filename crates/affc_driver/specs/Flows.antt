-- What is told of a source's dataflow.
use Rattle.std.specs.Prelude.{◌≡◌, ℕ, ℤ, false, List}
use Rattle.affc_ast.specs.declared.tree.Program.{Program}
use Rattle.affc_grammar.specs.Reads.{Reads}
use Rattle.affc_trace.specs.Laws.{IsInContext}
use Rattle.affc_plain.specs.Laws.{IsBare}
use Rattle.affc_nest.specs.Nests.{nest_of}
use Rattle.affc_bounds.specs.Faults.{StaysWithin}
use Rattle.affc_schedtext.specs.Outline.{outline}
use Rattle.affc_quast.specs.Limits.{narrow, AreTreesWithin}
use Rattle.affc_quast.specs.Trees.{Tree}
use Rattle.affc_dataflow.specs.Finds.{NameAllAt, AreInputs}
use Rattle.affc_report.specs.Trees.{flow_text}

-- throughout the context these trees name the sources of all loads, and each load of a temporary has one
abbrev pub NameThroughout : Program → List Tree → Type 0
NameThroughout program trees = (p : List ℤ) → IsInContext program p → NameAllAt program p (nest_of program) trees

-- The text tells the last-write tree of each load. The source is without the prelude and keeps to its arrays at all values of
-- its parameters, of which there are some; there each tree names, at each instance, the last one before it that stores what
-- the load reads.
pub record FlowsTo (source text : List ℕ) : Type 0 where
  pub program : Program
  pub reads : Reads source program
  pub plain : IsBare program
  pub within : StaysWithin program
  pub trees : List Tree
  pub named : NameThroughout program trees
  pub limits : AreTreesWithin narrow 302 12 (nest_of program) trees
  pub inputs : AreInputs (nest_of program) trees
  pub told : text ≡ flow_text (outline program) (nest_of program) trees
