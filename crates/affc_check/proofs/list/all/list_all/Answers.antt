use Rattle.std.proofs.Common.{flat_map, ◌≡◌, ◌+◌, ◌++◌, length, map, ap, subst, arith, ◌∙◌}
use Rattle.std.proofs.lemmas.Result.{err_from_is_err_and}
use Rattle.affc_order.proofs.CodeLemmas.{is_nest}
use Rattle.affc_check.specs.list.Groups.{part_items}
use Rattle.affc_check.specs.list.Held.{listed_said}
use Rattle.affc_check.specs.list.Items.{Shown}
use Rattle.affc_check.specs.list.Limits.{AnyPasses, HoldsOfNone}
use Rattle.affc_check.specs.list.Listed.{PartsListed, IsFirstPart}
use Rattle.affc_check.specs.list.Walks.{clash_systems}
use Rattle.affc_check.proofs.list.ListingLemmas.{folds_asked, is_listing, tree_is_first, fold_is_first}
use Rattle.affc_check.proofs.list.all.list_all.Goals as goal

pub context_shown-requires : goal.context_shown-requires
context_shown-requires c = is_nest c.args.nest.now c.args.schedule.now c.requires.asked.scheduled

pub add_extent_questions-requires : goal.add_extent_questions-requires
add_extent_questions-requires c = is_nest c.args.nest.now c.args.schedule.now c.requires.asked.scheduled

pub add_bound_questions-requires : goal.add_bound_questions-requires
add_bound_questions-requires c = is_nest c.args.nest.now c.args.schedule.now c.requires.asked.scheduled

pub add_folds-requires-clause-folds : goal.add_folds-requires-clause-folds
add_folds-requires-clause-folds c = folds_asked c.args.nest.now c.args.cert.now c.as_slice-folds.result.now c.requires.certificate c.as_slice-folds.ensures

pub returns-in_err-add_parts-clause-past : goal.returns-in_err-add_parts-clause-past
returns-in_err-add_parts-clause-past c =
    let p = err_from_is_err_and c.from_residual-in_err-add_parts.result c.from_residual-in_err-add_parts.ensures.1 in
    rw (p.1, p.2) (λ n e. tree_is_first c.args.nest.now c.args.schedule.now c.args.cert.now n (subst (λ ps. IsFirstPart AnyPasses 1 ps n) (ap (map part_items) c.as_slice-2.ensures ∙ c.requires.groups.of_trees) (c.in_err-add_parts.ensures.past n e)))

pub returns-in_err-add_folds-clause-past : goal.returns-in_err-add_folds-clause-past
returns-in_err-add_folds-clause-past c =
    let many : c.len.result ≡ length c.args.cert.now.flow.trees = c.len.ensures in
    let first : c.in-Some.first ≡ length c.args.cert.now.flow.trees + 1 = omega (arith, many, c.in-Some.ensures) in
    let p = err_from_is_err_and c.from_residual-in_err-add_folds.result c.from_residual-in_err-add_folds.ensures.1 in
    rw (p.1, p.2)
    (λ n e. fold_is_first c.args.nest.now c.args.schedule.now c.args.cert.now c.as_slice-folds.result.now c.in-Some.first n c.as_slice-folds.ensures first (subst (HoldsOfNone AnyPasses) (ap (map part_items) c.as_slice-2.ensures ∙ c.requires.groups.of_trees) c.in_ok-add_parts.ensures.ok.within) (c.in_err-add_folds.ensures.past n e))

pub returns-clause-ok : goal.returns-clause-ok
returns-clause-ok c =
    let x = c.in_ok-context_shown.field-0 in
    is_listing c.args.nest.now c.args.schedule.now c.args.cert.now c.as_slice.result.now (Shown x.system x.point)
    (flat_map listed_said c.new-items.result.items) (flat_map listed_said c.add_point.new.out.items) (flat_map listed_said c.add_extent_questions.new.out.items) (flat_map listed_said c.add_bound_questions.new.out.items)
    (flat_map listed_said c.add_parts.new.out.items) (flat_map listed_said c.add_kept.new.out.items) (flat_map listed_said c.add_folds.new.out.items) (map clash_systems c.args.systems.now) c.as_slice-folds.result.now
    c.as_slice.ensures c.in_ok-context_shown.ensures (ap (flat_map listed_said) c.new-items.ensures.items) c.as_slice-folds.ensures
    c.in_ok-add_point.ensures c.in_ok-add_extent_questions.ensures c.in_ok-add_bound_questions.ensures (subst (PartsListed (flat_map listed_said c.add_bound_questions.new.out.items) (flat_map listed_said c.add_parts.new.out.items)) (ap (map part_items) c.as_slice-2.ensures ∙ c.requires.groups.of_trees) c.in_ok-add_parts.ensures.ok)
    (c.in_ok-add_kept.ensures ∙ ap (λ is. flat_map listed_said c.add_parts.new.out.items ++ is) (ap part_items c.as_slice-3.ensures ∙ c.requires.groups.of_schedule)) c.in_ok-add_folds.ensures.ok
