use Rattle.std.proofs.Common.{flat_map, ◌≡◌, ◌+◌, ◌-◌, length, take, drop, subst, arith}
use Rattle.std.proofs.lemmas.Result.{err_from_is_err_and, on_ok_weaker, IfErr-weaker}
use Rattle.affc_domain.proofs.Lists.{first_and_rest}
use Rattle.affc_check.specs.list.Groups.{part_items}
use Rattle.affc_check.specs.list.Held.{listed_said}
use Rattle.affc_check.specs.list.Limits.{AnyPasses}
use Rattle.affc_check.specs.list.Listed.{AreListed}
use Rattle.affc_check.proofs.list.GroupLemmas.{parts_listed, first_passes, later_passes}
use Rattle.affc_check.proofs.list.groups.+add_parts.Goals as goal

pub returns-in_err-add_part-in-len1-up-clause-past : goal.returns-in_err-add_part-in-len1-up-clause-past
returns-in_err-add_part-in-len1-up-clause-past t c =
    let ps = c.args.parts.now in
    let rest = take (length ps - 1) (drop 1 ps) in
    let part = c.part-item.result in
    let is = first_and_rest ps part c.in-len1-up.len_at_least c.part-item.is in
    let p = err_from_is_err_and c.from_residual.result c.from_residual.ensures.1 in
    rw (p.1, p.2) (λ n e. let h = c.in_err-add_part-in-len1-up.ensures.past n e in first_passes ps rest part is c.args.first n h.0 (subst (λ gs. AnyPasses (part_items gs)) c.as_slice.ensures h.1))

pub returns-in-Some-clause-ok : goal.returns-in-Some-clause-ok
returns-in-Some-clause-ok t c =
    let ps = c.args.parts.now in
    let rest = take (length ps - 1) (drop 1 ps) in
    let part = c.part-item.result in
    let is = first_and_rest ps part c.in-len1-up.len_at_least c.part-item.is in
    let old = flat_map listed_said c.args.out.now.items in
    let mid = flat_map listed_said c.add_part.new.out.items in
    on_ok_weaker c.add_parts.result
    (parts_listed ps rest part is old mid (flat_map listed_said c.add_parts.new.out.items) (subst (λ gs. AreListed old mid (part_items gs)) c.as_slice.ensures c.in_ok-add_part-in-len1-up.ensures.ok)) c.add_parts.ensures.ok

pub returns-in-Some-clause-past : goal.returns-in-Some-clause-past
returns-in-Some-clause-past t c =
    let ps = c.args.parts.now in
    let rest = take (length ps - 1) (drop 1 ps) in
    let part = c.part-item.result in
    let is = first_and_rest ps part c.in-len1-up.len_at_least c.part-item.is in
    let next : c.in-Some.next ≡ c.args.first + 1 = omega (arith, c.in-Some.ensures) in
    let old = flat_map listed_said c.args.out.now.items in
    let mid = flat_map listed_said c.add_part.new.out.items in
    let own = subst (λ gs. AreListed old mid (part_items gs)) c.as_slice.ensures c.in_ok-add_part-in-len1-up.ensures.ok in
    IfErr-weaker c.add_parts.result _ _ (λ e h n q. later_passes ps rest part is c.args.first c.in-Some.next n next own.within (h n q)) c.add_parts.ensures.past
