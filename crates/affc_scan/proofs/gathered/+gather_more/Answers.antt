use Rattle.std.proofs.Common.{◌-◌, List, length, map, take, drop, sym, ap, subst}
use Rattle.std.proofs.lemmas.Result.{IfOk-weaker}
use Rattle.affc_domain.proofs.Lists.{first_and_rest}
use Rattle.affc_scan.specs.declared.alive.Alive.{Alive}
use Rattle.affc_scan.specs.Gathered.{GathersMore}
use Rattle.affc_scan.specs.Alive.{numbered}
use Rattle.affc_scan.proofs.Gathering.{one_more}
use Rattle.affc_scan.proofs.gathered.+gather_more.Goals as goal

pub returns-in_ok-both-in-len1-up-clause-more : goal.returns-in_ok-both-in-len1-up-clause-more
returns-in_ok-both-in-len1-up-clause-more t c =
    let ps : List Alive = c.args.statements.now in
    let rest : List Alive = take (length ps - 1) (drop 1 ps) in
    IfOk-weaker c.gather_more.result _ _
    (λ all e. subst (λ ss. GathersMore c.args.nest.now c.args.ranges.now c.args.first ss c.args.made all) (ap (map numbered) (sym (first_and_rest ps c.alive-item.result c.in-len1-up.len_at_least c.alive-item.is)))
    (one_more c.args.nest.now c.args.ranges.now c.args.first (numbered c.alive-item.result) (map numbered rest) c.args.made c.in_ok-own-in-len1-up.own c.in_ok-both-in-len1-up.both all
    c.in_ok-own-in-len1-up.ensures.one c.in_ok-both-in-len1-up.ensures.ends c.in_ok-both-in-len1-up.ensures.loose e)) c.gather_more.ensures.more
