use Rattle.std.proofs.Common.{flat_map, ◌≡◌, ◌+◌, ◌-◌, length, map, take, drop, ap, sym, subst, arith}
use Rattle.std.proofs.lemmas.Result.{err_from_is_err_and, on_ok_weaker, IfErr-weaker}
use Rattle.affc_domain.proofs.Lists.{first_and_rest}
use Rattle.affc_quast.specs.Seen.{trees_of}
use Rattle.affc_check.specs.list.Certs.{IsFoldSaid}
use Rattle.affc_check.specs.list.Held.{listed_said}
use Rattle.affc_check.specs.list.Items.{fold_items}
use Rattle.affc_check.specs.list.Listed.{AreListed}
use Rattle.affc_check.specs.list.Walks.{clash_systems, fold_shown}
use Rattle.affc_check.proofs.list.ListingLemmas.{no_folds, none_below, folds_listed, fold_first, fold_later, first_systems, no_first}
use Rattle.affc_check.proofs.list.StopLemmas.{part_same}
use Rattle.affc_check.proofs.list.all.+add_folds.Goals as goal

pub returns-in-empty-clause-ok : goal.returns-in-empty-clause-ok
returns-in-empty-clause-ok t c =
    no_folds c.args.nest.now c.args.schedule.now (trees_of c.args.flow.now) c.args.folds.now (map clash_systems c.args.systems.now) (flat_map listed_said c.args.out.now.items) (none_below c.args.folds.now c.in-empty.len_below) c.requires.systems

pub returns-in-empty-systems-clause-past : goal.returns-in-empty-systems-clause-past
returns-in-empty-systems-clause-past t c = λ n e.
    let nest = c.args.nest.now in
    let schedule = c.args.schedule.now in
    let trees = trees_of c.args.flow.now in
    let cs = c.args.folds.now in
    let rest = take (length cs - 1) (drop 1 cs) in
    let ss = c.args.systems.now in
    let f = c.fold-item.result in
    let is = first_and_rest cs f c.in-len1-up.len_at_least c.fold-item.is in
    fold_first nest schedule trees cs rest f is c.args.first n (part_same c.args.first n e) (no_first nest schedule trees cs rest f is (map clash_systems ss) (ap (map clash_systems) (none_below ss c.in-empty-systems.len_below)) c.requires.systems)

pub returns-in_err-add_part-in-len1-up-systems-clause-past : goal.returns-in_err-add_part-in-len1-up-systems-clause-past
returns-in_err-add_part-in-len1-up-systems-clause-past t c =
    let cs = c.args.folds.now in
    let rest = take (length cs - 1) (drop 1 cs) in
    let f = c.fold-item.result in
    let is = first_and_rest cs f c.in-len1-up.len_at_least c.fold-item.is in
    let p = err_from_is_err_and c.from_residual.result c.from_residual.ensures.1 in
    rw (p.1, p.2)
    (λ n e. let h = c.in_err-add_part-in-len1-up-systems.ensures.past n e in fold_first c.args.nest.now c.args.schedule.now (trees_of c.args.flow.now) cs rest f is c.args.first n h.0 h.1)

pub add_part-requires-clause-said : goal.add_part-requires-clause-said
add_part-requires-clause-said t c =
    let cs = c.args.folds.now in
    let rest = take (length cs - 1) (drop 1 cs) in
    let ss = c.args.systems.now in
    let others = take (length ss - 1) (drop 1 ss) in
    let f = c.fold-item.result in
    let own = c.own-item.result in
    let is = first_and_rest cs f c.in-len1-up.len_at_least c.fold-item.is in
    let js = ap (map clash_systems) (first_and_rest ss own c.in-len1-up-systems.len_at_least c.own-item.is) in
    let first = first_systems c.args.nest.now c.args.schedule.now (trees_of c.args.flow.now) cs rest f is (map clash_systems ss) (map clash_systems others) (clash_systems own) js c.requires.systems in
    subst (λ z. IsFoldSaid c.args.nest.now c.args.schedule.now (trees_of c.args.flow.now) f (fold_shown f (clash_systems z))) (sym c.as_slice-own.ensures) first.0.0

pub add_part-requires-clause-fits : goal.add_part-requires-clause-fits
add_part-requires-clause-fits t c =
    let cs = c.args.folds.now in
    let rest = take (length cs - 1) (drop 1 cs) in
    let ss = c.args.systems.now in
    let others = take (length ss - 1) (drop 1 ss) in
    let f = c.fold-item.result in
    let own = c.own-item.result in
    let is = first_and_rest cs f c.in-len1-up.len_at_least c.fold-item.is in
    let js = ap (map clash_systems) (first_and_rest ss own c.in-len1-up-systems.len_at_least c.own-item.is) in
    (first_systems c.args.nest.now c.args.schedule.now (trees_of c.args.flow.now) cs rest f is (map clash_systems ss) (map clash_systems others) (clash_systems own) js c.requires.systems).0.1

pub returns-in-Some-clause-ok : goal.returns-in-Some-clause-ok
returns-in-Some-clause-ok t c =
    let nest = c.args.nest.now in
    let schedule = c.args.schedule.now in
    let trees = trees_of c.args.flow.now in
    let cs = c.args.folds.now in
    let rest = take (length cs - 1) (drop 1 cs) in
    let ss = c.args.systems.now in
    let others = take (length ss - 1) (drop 1 ss) in
    let f = c.fold-item.result in
    let own = c.own-item.result in
    let is = first_and_rest cs f c.in-len1-up.len_at_least c.fold-item.is in
    let js = ap (map clash_systems) (first_and_rest ss own c.in-len1-up-systems.len_at_least c.own-item.is) in
    let first = first_systems nest schedule trees cs rest f is (map clash_systems ss) (map clash_systems others) (clash_systems own) js c.requires.systems in
    let old = flat_map listed_said c.args.out.now.items in
    let mid = flat_map listed_said c.add_part.new.out.items in
    let o = c.in_ok-add_part-in-len1-up-systems.ensures in
    on_ok_weaker c.add_folds.result
    (folds_listed nest schedule trees cs rest f is (map clash_systems ss) (map clash_systems others) (clash_systems own) old mid (flat_map listed_said c.add_folds.new.out.items) js first.0.0
    (subst (λ z. AreListed old mid (fold_items nest (fold_shown f (clash_systems z)))) c.as_slice-own.ensures o.ok) o.within) c.add_folds.ensures.ok

pub returns-in-Some-clause-past : goal.returns-in-Some-clause-past
returns-in-Some-clause-past t c =
    let cs = c.args.folds.now in
    let rest = take (length cs - 1) (drop 1 cs) in
    let f = c.fold-item.result in
    let is = first_and_rest cs f c.in-len1-up.len_at_least c.fold-item.is in
    let next : c.in-Some.next ≡ c.args.first + 1 = omega (arith, c.in-Some.ensures) in
    IfErr-weaker c.add_folds.result _ _
    (λ e h n q. fold_later c.args.nest.now c.args.schedule.now (trees_of c.args.flow.now) cs rest f is c.args.first c.in-Some.next n next c.in_ok-add_part-in-len1-up-systems.ensures.within (h n q)) c.add_folds.ensures.past
