use Rattle.std.proofs.Common.{◌-◌, List, length, map, take, drop, sym, ap, subst}
use Rattle.std.proofs.lemmas.Result.{IfOk-weaker}
use Rattle.affc_domain.proofs.Lists.{first_and_rest}
use Rattle.affc_scan.specs.declared.alive.Alive.{Alive}
use Rattle.affc_scan.specs.Gathered.{Gathers}
use Rattle.affc_scan.specs.Alive.{numbered}
use Rattle.affc_scan.proofs.Gathering.{all_of}
use Rattle.affc_scan.proofs.gathered.gather_all.Goals as goal

pub returns-in_ok-own-in-len1-up-clause-all : goal.returns-in_ok-own-in-len1-up-clause-all
returns-in_ok-own-in-len1-up-clause-all c =
    let ps : List Alive = c.args.statements.now in
    let rest : List Alive = take (length ps - 1) (drop 1 ps) in
    IfOk-weaker c.gather_more.result _ _
    (λ all e. subst (λ ss. Gathers c.args.nest.now c.args.ranges.now c.args.first ss all) (ap (map numbered) (sym (first_and_rest ps c.alive-item.result c.in-len1-up.len_at_least c.alive-item.is)))
    (all_of c.args.nest.now c.args.ranges.now c.args.first (numbered c.alive-item.result) (map numbered rest) c.in_ok-own-in-len1-up.own all
    c.in_ok-own-in-len1-up.ensures.one e)) c.gather_more.ensures.more
