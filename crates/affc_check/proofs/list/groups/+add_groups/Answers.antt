use Rattle.std.proofs.Common.{flat_map, ap, sym, subst, ◌∙◌}
use Rattle.std.proofs.lemmas.Result.{err_from_is_err_and, on_ok_weaker, IfErr-weaker}
use Rattle.affc_life.proofs.LimitLemmas.{only_entry}
use Rattle.affc_check.specs.list.Groups.{part_items}
use Rattle.affc_check.specs.list.Limits.{AnyPasses}
use Rattle.affc_check.specs.list.Listed.{AreListed}
use Rattle.affc_check.proofs.list.GroupLemmas.{part_append, part_of_one}
use Rattle.affc_check.specs.list.Held.{listed_said}
use Rattle.affc_check.proofs.list.PartLemmas.{half_first, half_others, both_halves}
use Rattle.affc_check.proofs.list.groups.+add_groups.Goals as goal

pub returns-in_err-add_groups-in_default-clause-past : goal.returns-in_err-add_groups-in_default-clause-past
returns-in_err-add_groups-in_default-clause-past t c =
    let first = c.split_at.result.0.now in
    let others = c.split_at.result.1.now in
    let is = c.split_at.ensures.by_index.0 in
    let p = err_from_is_err_and c.from_residual.result c.from_residual.ensures.1 in
    rw (p.1, p.2) (λ l. half_first part_items part_append c.args.groups.now first others is (c.in_err-add_groups-in_default.ensures.past l))

pub returns-in_ok-add_groups-in_default-clause-ok : goal.returns-in_ok-add_groups-in_default-clause-ok
returns-in_ok-add_groups-in_default-clause-ok t c =
    let first = c.split_at.result.0.now in
    let others = c.split_at.result.1.now in
    let is = c.split_at.ensures.by_index.0 in
    on_ok_weaker c.add_groups-in_default.result
    (both_halves part_items part_append c.args.groups.now first others is (flat_map listed_said c.args.out.now.items) (flat_map listed_said c.add_groups.new.out.items) (flat_map listed_said c.add_groups-in_default.new.out.items) c.in_ok-add_groups-in_default.ensures.ok)
    c.add_groups-in_default.ensures.ok

pub returns-in_ok-add_groups-in_default-clause-past : goal.returns-in_ok-add_groups-in_default-clause-past
returns-in_ok-add_groups-in_default-clause-past t c =
    let first = c.split_at.result.0.now in
    let others = c.split_at.result.1.now in
    let is = c.split_at.ensures.by_index.0 in
    IfErr-weaker c.add_groups-in_default.result _ _ (λ e h l. half_others part_items part_append c.args.groups.now first others is (h l)) c.add_groups-in_default.ensures.past

pub returns-in-len1-clause-ok : goal.returns-in-len1-clause-ok
returns-in-len1-clause-ok t c =
    let only = only_entry c.args.groups.now c.group-item.result c.in-len1.len_at_least c.in-len1.len_below c.group-item.is in
    let is = sym (part_of_one c.group-item.result) ∙ ap part_items (sym only) in
    on_ok_weaker c.add_group.result (λ h. subst (AreListed (flat_map listed_said c.args.out.now.items) (flat_map listed_said c.add_group.new.out.items)) is h) c.add_group.ensures.ok

pub returns-in-len1-clause-past : goal.returns-in-len1-clause-past
returns-in-len1-clause-past t c =
    let only = only_entry c.args.groups.now c.group-item.result c.in-len1.len_at_least c.in-len1.len_below c.group-item.is in
    let is = sym (part_of_one c.group-item.result) ∙ ap part_items (sym only) in
    IfErr-weaker c.add_group.result _ _ (λ e h l. subst AnyPasses is (h l)) c.add_group.ensures.past
