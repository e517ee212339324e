use Rattle.std.proofs.Common.{◌≡◌, ◌+◌, ◌-◌, length, take, drop, ap, subst, arith}
use Rattle.std.proofs.lemmas.Result.{err_from_is_err_and, IfOk-weaker, IfErr-weaker}
use Rattle.affc_domain.proofs.Lists.{first_and_rest}
use Rattle.affc_sched.specs.Touched.{Each}
use Rattle.affc_quast.specs.Seen.{trees_of}
use Rattle.affc_check.specs.list.Walks.{IsFoldAsked}
use Rattle.affc_check.proofs.FoldLookLemmas.{no_folds_looked, folds_looked}
use Rattle.affc_check.proofs.list.ListingLemmas.{none_below, fold_first, fold_later}
use Rattle.affc_check.proofs.fold_looks.+look_folds.Goals as goal

pub returns-in-empty-clause-ok : goal.returns-in-empty-clause-ok
returns-in-empty-clause-ok t c =
    let of = c.args.of.now in
    no_folds_looked of.nest.now of.schedule.now (trees_of of.flow.now) c.args.folds.now c.args.looked (none_below c.args.folds.now c.in-empty.len_below)

pub look_numbered-requires-clause-fold : goal.look_numbered-requires-clause-fold
look_numbered-requires-clause-fold t c =
    let of = c.args.of.now in
    let is = first_and_rest c.args.folds.now c.fold-item.result c.in-len1-up.len_at_least c.fold-item.is in
    (subst (Each (IsFoldAsked of.nest.now (trees_of of.flow.now))) is c.requires.folds).0

pub returns-in_err-after-in-len1-up-clause-past : goal.returns-in_err-after-in-len1-up-clause-past
returns-in_err-after-in-len1-up-clause-past t c =
    let of = c.args.of.now in
    let cs = c.args.folds.now in
    let rest = take (length cs - 1) (drop 1 cs) in
    let f = c.fold-item.result in
    let is = first_and_rest cs f c.in-len1-up.len_at_least c.fold-item.is in
    let p = err_from_is_err_and c.from_residual.result c.from_residual.ensures.1 in
    rw (p.1, p.2)
    (λ n e. let h = c.in_err-after-in-len1-up.ensures.past n e in fold_first of.nest.now of.schedule.now (trees_of of.flow.now) cs rest f is c.args.first n h.0 h.1)

pub look_folds-requires : goal.look_folds-requires
look_folds-requires t c =
    let of = c.args.of.now in
    let is = first_and_rest c.args.folds.now c.fold-item.result c.in-len1-up.len_at_least c.fold-item.is in
    let l = ap length is in (omega (arith, c.decreases, l), (c.requires.setting, (subst (Each (IsFoldAsked of.nest.now (trees_of of.flow.now))) is c.requires.folds).1))

pub returns-in-Some-clause-ok : goal.returns-in-Some-clause-ok
returns-in-Some-clause-ok t c =
    let of = c.args.of.now in
    let cs = c.args.folds.now in
    let rest = take (length cs - 1) (drop 1 cs) in
    let f = c.fold-item.result in
    let is = first_and_rest cs f c.in-len1-up.len_at_least c.fold-item.is in
    let after = c.in_ok-after-in-len1-up in
    IfOk-weaker c.look_folds.result _ _
    (λ new h. folds_looked of.nest.now of.schedule.now (trees_of of.flow.now) cs rest f c.args.looked after.after new is after.ensures.ok h) c.look_folds.ensures.ok

pub returns-in-Some-clause-past : goal.returns-in-Some-clause-past
returns-in-Some-clause-past t c =
    let of = c.args.of.now in
    let cs = c.args.folds.now in
    let rest = take (length cs - 1) (drop 1 cs) in
    let f = c.fold-item.result in
    let is = first_and_rest cs f c.in-len1-up.len_at_least c.fold-item.is in
    let next : c.in-Some.next ≡ c.args.first + 1 = omega (arith, c.in-Some.ensures) in
    IfErr-weaker c.look_folds.result _ _
    (λ e h n q. fold_later of.nest.now of.schedule.now (trees_of of.flow.now) cs rest f is c.args.first c.in-Some.next n next c.in_ok-after-in-len1-up.ensures.ok.within (h n q)) c.look_folds.ensures.past
