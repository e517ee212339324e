use Rattle.std.proofs.Common.{◌≡◌, ◌++◌, map, flat_map, sym, ap, subst, ◌∙◌}
use Rattle.std.specs.Prelude.{IfSome}
use Rattle.affc_quast.specs.Leaves.{Leaf, path_ranges}
use Rattle.affc_quast.specs.SeenLeaves.{named_seen, leaf_seen}
use Rattle.affc_flow.specs.Questions.{leaf_questions}
use Rattle.affc_questions.specs.Listed.{in_ranges}
use Rattle.affc_dataflow.specs.Guesses.{asked, leaf_under}
use Rattle.affc_dataflow.proofs.asked.questions_of.Goals as goal

pub returns : goal.returns
returns c =
    let l = c.args.load.now in
    let ranges = c.args.place.now.ranges.now in
    let groups = c.in_ok-groups.groups.items in
    let is : leaf_seen c.in-Some.leaf ≡ leaf_under l.reader.now c.args.place.now.path.now (named_seen c.args.named) =
    subst (λ o. IfSome o (λ m. leaf_seen m ≡ leaf_under l.reader.now c.args.place.now.path.now (named_seen c.args.named))) c.in-Some.is c.in_ok-leaf.ensures.is in
    c.in_ok-add_groups.ensures ∙ ap (λ qs. map asked qs ++ flat_map (in_ranges ranges) c.as_slice.result.now) c.new-out.ensures.items ∙ ap (flat_map (in_ranges ranges)) c.as_slice.ensures.value
    ∙ sym (ap (λ (m : Leaf). flat_map (in_ranges (path_ranges ranges m.divisions)) groups) is) ∙ c.in_ok-groups.ensures ranges ∙ ap (leaf_questions l.nest.now l.reader.now l.access.now ranges) is
