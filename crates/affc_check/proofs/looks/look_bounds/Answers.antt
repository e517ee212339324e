use Rattle.std.proofs.Common.{flat_map, map, ap, ◌∙◌}
use Rattle.std.proofs.lemmas.Result.{IfOk-weaker}
use Rattle.affc_nest.specs.Questions.{extent_questions, bound_questions}
use Rattle.affc_check.specs.list.Held.{listed_said, point_item, context_item}
use Rattle.affc_check.specs.list.Items.{Question}
use Rattle.affc_check.proofs.AllLemmas.{bounds_listed}
use Rattle.affc_check.proofs.LookLemmas.{looks_same}
use Rattle.affc_check.proofs.looks.look_bounds.Goals as goal

pub returns : goal.returns
returns c =
    let nest = c.args.nest.now in
    let shown = c.in_ok-context_shown in
    let is = ap (flat_map listed_said) c.as_slice.ensures.value
    ∙ bounds_listed (flat_map listed_said c.new-listed.result.items) (flat_map listed_said c.add_point.new.out.items) (flat_map listed_said c.add_extent_questions.new.out.items) (flat_map listed_said c.add_bound_questions.new.out.items)
    (map Question (extent_questions nest)) (map Question (bound_questions nest)) (point_item shown.field-0) (context_item nest c.args.p.now)
    (ap (flat_map listed_said) c.new-listed.ensures.items) shown.ensures c.in_ok-add_point.ensures c.in_ok-add_extent_questions.ensures c.in_ok-add_bound_questions.ensures in
    IfOk-weaker c.look_all.result _ _ (λ new h. looks_same c.args.looked new (flat_map listed_said c.as_slice.result.now) _ is h) c.look_all.ensures
