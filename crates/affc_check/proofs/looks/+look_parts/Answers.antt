use Rattle.std.proofs.Common.{◌≡◌, ◌+◌, ◌-◌, length, map, take, drop, ap, sym, subst, arith}
use Rattle.std.proofs.lemmas.Result.{err_from_is_err_and, IfOk-weaker, IfErr-weaker}
use Rattle.affc_domain.proofs.Lists.{first_and_rest}
use Rattle.affc_sched.specs.Touched.{Each}
use Rattle.affc_check.specs.Looked.{PartsLooked}
use Rattle.affc_check.specs.list.Limits.{AnyPasses}
use Rattle.affc_check.specs.list.Listed.{IsFirstPart}
use Rattle.affc_check.specs.list.Loads.{part_said, IsPart}
use Rattle.affc_check.proofs.LookLemmas.{no_parts_looked, part_looked}
use Rattle.affc_check.proofs.list.ListingLemmas.{none_below}
use Rattle.affc_check.proofs.list.PartLemmas.{part_here, part_later}
use Rattle.affc_check.proofs.looks.+look_parts.Goals as goal

pub returns-in-empty-clause-ok : goal.returns-in-empty-clause-ok
returns-in-empty-clause-ok t c =
    let l = c.args.looked in
    subst (PartsLooked l l) (ap (map (part_said c.args.nest.now)) (sym (none_below c.args.parts.now c.in-empty.len_below))) (no_parts_looked l)

pub look_numbered-requires-clause-part : goal.look_numbered-requires-clause-part
look_numbered-requires-clause-part t c =
    let is = first_and_rest c.args.parts.now c.part-item.result c.in-len1-up.len_at_least c.part-item.is in
    (subst (Each (IsPart c.args.nest.now)) is c.requires.parts).0

pub returns-in_err-after-in-len1-up-clause-past : goal.returns-in_err-after-in-len1-up-clause-past
returns-in_err-after-in-len1-up-clause-past t c =
    let said = part_said c.args.nest.now in
    let ps = c.args.parts.now in
    let rest = take (length ps - 1) (drop 1 ps) in
    let part = c.part-item.result in
    let is = first_and_rest ps part c.in-len1-up.len_at_least c.part-item.is in
    let p = err_from_is_err_and c.from_residual.result c.from_residual.ensures.1 in
    rw (p.1, p.2)
    (λ n e. let h = c.in_err-after-in-len1-up.ensures.past n e in
    subst (λ xs. IsFirstPart AnyPasses c.args.first xs n) (ap (map said) (sym is)) (part_here AnyPasses c.args.first n (said part) (map said rest) h.0 h.1))

pub returns-in-Some-clause-ok : goal.returns-in-Some-clause-ok
returns-in-Some-clause-ok t c =
    let said = part_said c.args.nest.now in
    let ps = c.args.parts.now in
    let rest = take (length ps - 1) (drop 1 ps) in
    let part = c.part-item.result in
    let is = first_and_rest ps part c.in-len1-up.len_at_least c.part-item.is in
    let after = c.in_ok-after-in-len1-up in
    IfOk-weaker c.look_parts.result _ _
    (λ new h. subst (PartsLooked c.args.looked new) (ap (map said) (sym is)) (part_looked c.args.looked after.after new (said part) (map said rest) after.ensures.ok h)) c.look_parts.ensures.ok

pub returns-in-Some-clause-past : goal.returns-in-Some-clause-past
returns-in-Some-clause-past t c =
    let said = part_said c.args.nest.now in
    let ps = c.args.parts.now in
    let rest = take (length ps - 1) (drop 1 ps) in
    let part = c.part-item.result in
    let is = first_and_rest ps part c.in-len1-up.len_at_least c.part-item.is in
    let next : c.in-Some.next ≡ c.args.first + 1 = omega (arith, c.in-Some.ensures) in
    IfErr-weaker c.look_parts.result _ _
    (λ e h n q. subst (λ xs. IsFirstPart AnyPasses c.args.first xs n) (ap (map said) (sym is))
    (part_later AnyPasses c.args.first c.in-Some.next n (said part) (map said rest) next c.in_ok-after-in-len1-up.ensures.ok.within (h n q))) c.look_parts.ensures.past
