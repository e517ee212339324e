use Rattle.std.proofs.Common.{◌∷◌, ◌++◌, [], ◌-◌, length, map, take, drop, ap, subst, ◌∙◌}
use Rattle.std.proofs.lemmas.List.{map-append}
use Rattle.std.proofs.lemmas.Result.{on_ok_weaker}
use Rattle.affc_domain.proofs.Lists.{first_and_rest}
use Rattle.affc_sched.specs.Touched.{Each}
use Rattle.affc_check.specs.list.Groups.{part_items}
use Rattle.affc_check.specs.list.Loads.{part_said, IsPart}
use Rattle.affc_check.proofs.list.ListLemmas.{none_more}
use Rattle.affc_check.proofs.list.ListingLemmas.{none_below}
use Rattle.affc_check.proofs.list.LoadLemmas.{next_said}
use Rattle.affc_check.proofs.list.trees.+add_groups_in.Goals as goal

pub returns-in-empty : goal.returns-in-empty
returns-in-empty t c = none_more (map part_items c.args.out.now) (map (part_said c.args.nest.now) c.args.parts.now) (ap (map (part_said c.args.nest.now)) (none_below c.args.parts.now c.in-empty.len_below))

pub groups_in-requires-clause-part : goal.groups_in-requires-clause-part
groups_in-requires-clause-part t c =
    let is = first_and_rest c.args.parts.now c.part-item.result c.in-len1-up.len_at_least c.part-item.is in
    (subst (Each (IsPart c.args.nest.now)) is c.requires.parts).0

pub returns-in_ok-push-in-len1-up : goal.returns-in_ok-push-in-len1-up
returns-in_ok-push-in-len1-up t c =
    let ps = c.args.parts.now in
    let rest = take (length ps - 1) (drop 1 ps) in
    let p = c.part-item.result in
    let is = first_and_rest ps p c.in-len1-up.len_at_least c.part-item.is in
    let old = map part_items c.args.out.now in
    on_ok_weaker c.add_groups_in.result
    (next_said (part_said c.args.nest.now) ps rest p old (map part_items c.push.new.self) (map part_items c.add_groups_in.new.out) is
    (ap (map part_items) c.in_ok-push-in-len1-up.ensures.ok ∙ map-append part_items c.args.out.now (c.in_ok-groups-in-len1-up.groups ∷ []) ∙ ap (λ g. old ++ g ∷ []) c.in_ok-groups-in-len1-up.ensures))
    c.add_groups_in.ensures
