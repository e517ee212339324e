use Rattle.std.proofs.Common.{◌∙◌}
use Rattle.std.proofs.lemmas.Result.{IfOk-weaker}
use Rattle.affc_nest.proofs.QuestionProofs.{nest_few, few_numbered}
use Rattle.affc_quast.specs.Seen.{seen}
use Rattle.affc_latest.proofs.BesideLemmas.{is_nest}
use Rattle.affc_dataflow.proofs.FindLemmas.{box_width, box_slight, box_fuel, box_tree}
use Rattle.affc_dataflow.proofs.finding.living_tree.Goals as goal

pub tree_in-requires-clause-width : goal.tree_in-requires-clause-width
tree_in-requires-clause-width c =
    let l = c.args.load.now in
    let h = c.requires.load in
    let n = is_nest l.nest.now h.nested in
    box_width l.nest.now h.nested l.reader.now h.touched.there h.touched.alive (nest_few l.nest.now n) (few_numbered l.nest.now l.reader.now n h.touched.there) c.ranges-3.result.now (c.ranges-3.ensures.ranges ∙ c.in_ok-ranges.ensures)

pub tree_in-requires-clause-slight : goal.tree_in-requires-clause-slight
tree_in-requires-clause-slight c =
    let l = c.args.load.now in
    let h = c.requires.load in
    let n = is_nest l.nest.now h.nested in
    box_slight l.nest.now h.nested l.reader.now h.touched.there h.touched.alive (nest_few l.nest.now n) (few_numbered l.nest.now l.reader.now n h.touched.there) c.ranges-3.result.now (c.ranges-3.ensures.ranges ∙ c.in_ok-ranges.ensures)

pub tree_in-requires-clause-fuel : goal.tree_in-requires-clause-fuel
tree_in-requires-clause-fuel c =
    let l = c.args.load.now in
    let h = c.requires.load in
    let n = is_nest l.nest.now h.nested in
    box_fuel l.nest.now h.nested l.reader.now h.touched.there h.touched.alive (nest_few l.nest.now n) (few_numbered l.nest.now l.reader.now n h.touched.there) c.ranges-3.result.now (c.ranges-3.ensures.ranges ∙ c.in_ok-ranges.ensures)

pub returns-clause-right : goal.returns-clause-right
returns-clause-right c =
    let l = c.args.load.now in
    let h = c.requires.load in
    let n = is_nest l.nest.now h.nested in
    IfOk-weaker c.tree_in.result _ _
    (λ tree. box_tree l.nest.now h.nested l.reader.now h.touched.there h.touched.alive (nest_few l.nest.now n) (few_numbered l.nest.now l.reader.now n h.touched.there) l.access.now c.ranges-3.result.now (seen tree)
    (c.ranges-3.ensures.ranges ∙ c.in_ok-ranges.ensures))
    c.tree_in.ensures.right
