use Rattle.std.proofs.Common.{◌-◌, length, flat_map, take, drop, ap, sym, subst, arith}
use Rattle.std.proofs.lemmas.Result.{err_from_is_err_and, IfOk-weaker, IfErr-weaker}
use Rattle.affc_domain.proofs.Lists.{first_and_rest}
use Rattle.affc_sched.specs.Touched.{Each}
use Rattle.affc_check.specs.Walked.{Walked, Breaks, walk_in}
use Rattle.affc_check.specs.list.Loads.{part_clashes, IsPart}
use Rattle.affc_check.proofs.WalkedLemmas.{along_front, along_behind, walked_none, walked_twice, breaks_front, breaks_behind}
use Rattle.affc_check.proofs.list.ListingLemmas.{none_below}
use Rattle.affc_check.proofs.walks.+walk_parts.Goals as goal

pub returns-in-empty-clause-ok : goal.returns-in-empty-clause-ok
returns-in-empty-clause-ok t c =
    let a = c.args.asked.now in
    let l = c.args.carried in
    subst (Walked a.along l l) (ap (flat_map (part_clashes a.nest.now (walk_in a))) (sym (none_below c.args.parts.now c.in-empty.len_below))) (walked_none a.along l)

pub walk_part-requires-clause-part : goal.walk_part-requires-clause-part
walk_part-requires-clause-part t c =
    let is = first_and_rest c.args.parts.now c.part-item.result c.in-len1-up.len_at_least c.part-item.is in
    (subst (Each (IsPart c.args.asked.now.nest.now)) is c.requires.parts).0

pub walk_part-requires-clause-along : goal.walk_part-requires-clause-along
walk_part-requires-clause-along t c =
    let a = c.args.asked.now in
    let F = part_clashes a.nest.now (walk_in a) in
    let ps = c.args.parts.now in
    let is = first_and_rest ps c.part-item.result c.in-len1-up.len_at_least c.part-item.is in
    along_front a.along (F c.part-item.result) (flat_map F (take (length ps - 1) (drop 1 ps))) (flat_map F ps) (ap (flat_map F) is) c.requires.along

pub returns-in_err-after-in-len1-up-clause-past : goal.returns-in_err-after-in-len1-up-clause-past
returns-in_err-after-in-len1-up-clause-past t c =
    let a = c.args.asked.now in
    let F = part_clashes a.nest.now (walk_in a) in
    let ps = c.args.parts.now in
    let part = c.part-item.result in
    let rest = take (length ps - 1) (drop 1 ps) in
    let is = first_and_rest ps part c.in-len1-up.len_at_least c.part-item.is in
    let p = err_from_is_err_and c.from_residual.result c.from_residual.ensures.1 in
    rw (p.1, p.2) (λ l. subst (Breaks a.along) (sym (ap (flat_map F) is)) (breaks_front a.along (F part) (flat_map F rest) (c.in_err-after-in-len1-up.ensures.past l)))

pub walk_parts-requires : goal.walk_parts-requires
walk_parts-requires t c =
    let a = c.args.asked.now in
    let F = part_clashes a.nest.now (walk_in a) in
    let ps = c.args.parts.now in
    let is = first_and_rest ps c.part-item.result c.in-len1-up.len_at_least c.part-item.is in
    let l = ap length is in (
      omega (arith, c.decreases, l),
      (c.requires.scheduled, ((subst (Each (IsPart a.nest.now)) is c.requires.parts).1, along_behind a.along (F c.part-item.result) (flat_map F (take (length ps - 1) (drop 1 ps))) (flat_map F ps) (ap (flat_map F) is) c.requires.along)),
    )

pub returns-in_ok-after-in-len1-up-clause-ok : goal.returns-in_ok-after-in-len1-up-clause-ok
returns-in_ok-after-in-len1-up-clause-ok t c =
    let a = c.args.asked.now in
    let F = part_clashes a.nest.now (walk_in a) in
    let ps = c.args.parts.now in
    let part = c.part-item.result in
    let rest = take (length ps - 1) (drop 1 ps) in
    let is = first_and_rest ps part c.in-len1-up.len_at_least c.part-item.is in
    let after = c.in_ok-after-in-len1-up in
    IfOk-weaker c.walk_parts.result _ _
    (λ new h. subst (Walked a.along c.args.carried new) (sym (ap (flat_map F) is)) (walked_twice a.along c.args.carried after.after new (F part) (flat_map F rest) after.ensures.ok h)) c.walk_parts.ensures.ok

pub returns-in_ok-after-in-len1-up-clause-past : goal.returns-in_ok-after-in-len1-up-clause-past
returns-in_ok-after-in-len1-up-clause-past t c =
    let a = c.args.asked.now in
    let F = part_clashes a.nest.now (walk_in a) in
    let ps = c.args.parts.now in
    let part = c.part-item.result in
    let rest = take (length ps - 1) (drop 1 ps) in
    let is = first_and_rest ps part c.in-len1-up.len_at_least c.part-item.is in
    IfErr-weaker c.walk_parts.result _ _
    (λ e h l. subst (Breaks a.along) (sym (ap (flat_map F) is)) (breaks_behind a.along (F part) (flat_map F rest) (h l))) c.walk_parts.ensures.past
