-- The parts of trees that the search gives.
use Rattle.std.proofs.Common.{◌≡◌, List, sym, subst}
use Rattle.affc_system.specs.Systems.{Rows}
use Rattle.affc_ast.specs.declared.tree.Program.{Program}
use Rattle.affc_trace.specs.Law.{IsIn}
use Rattle.affc_trace.proofs.Members.{in_map, to_flat_map}
use Rattle.affc_domain.proofs.Lists.{stands_in}
use Rattle.affc_nest.specs.declared.nest.Nest.{Nest}
use Rattle.affc_nest.specs.Laws.{HasNest, NamesArrays}
use Rattle.affc_nest.specs.Nests.{nest_of}
use Rattle.affc_quast.specs.Trees.{Tree}
use Rattle.affc_flow.specs.Questions as flow
use Rattle.affc_flow.specs.Questions.{flow_questions}
use Rattle.affc_life.specs.Laws.{AreFound}
use Rattle.affc_products.specs.Parts.{IsWithin}
use Rattle.affc_questions.proofs.PassLemmas.{found_trees_pass_no_limit}
use Rattle.affc_check.specs.list.Held.{flow_item}
use Rattle.affc_check.specs.list.Items.{Item, Question}
use Rattle.affc_check.specs.list.Laws.{FoundTreesPassNoPart}
use Rattle.affc_check.specs.list.Limits.{AnyPasses}
use Rattle.affc_check.specs.list.Passes.{items_by_tree}
use Rattle.affc_check.proofs.list.TreeLemmas.{trees_flat}

asked : (p : Rows) (q : flow.Question) → Question p ≡ flow_item q → p ≡ q.system
asked p q e = cc

none_passes : (program : Program) (trees : List Tree) → HasNest program → NamesArrays program → AreFound (nest_of program) trees → (part : List Item) → IsIn part (items_by_tree (nest_of program) trees) → ¬ (AnyPasses part)
none_passes program trees has named found part there = λ (p : AnyPasses part).
    let nest : Nest = nest_of program in
    let i = subst (IsIn (Question p.question)) (trees_flat nest trees) (to_flat_map (λ (is : List Item). is) (items_by_tree nest trees) part (Question p.question) there p.there) in
    let q = in_map flow_item (flow_questions nest trees) (Question p.question) i in
    p.passes (subst IsWithin (sym (asked p.question q.0 q.2)) (found_trees_pass_no_limit program trees q.0 has named found q.1))

pub found_trees_pass_no_part : FoundTreesPassNoPart
found_trees_pass_no_part program trees has named found = record { none = λ k part at. none_passes program trees has named found part (stands_in (items_by_tree (nest_of program) trees) k part at) }
