use Rattle.std.proofs.Common.{◌-◌, length, take, drop, sym, ap, subst, arith}
use Rattle.std.proofs.lemmas.Result.{on_ok_weaker}
use Rattle.affc_domain.proofs.Lists.{first_and_rest}
use Rattle.affc_sched.specs.Touched.{Each}
use Rattle.affc_quast.specs.Seen.{trees_of}
use Rattle.affc_check.specs.Made.{FoldFits}
use Rattle.affc_check.specs.list.Walks.{IsFoldAsked}
use Rattle.affc_check.proofs.list.ListingLemmas.{none_below}
use Rattle.affc_check.proofs.MadeLemmas.{nothing_made, next_made}
use Rattle.affc_check.proofs.made.+add_made.Goals as goal

pub returns-in-empty : goal.returns-in-empty
returns-in-empty t c =
    let of = c.args.of.now in
    nothing_made of.nest.now of.schedule.now (trees_of of.flow.now) c.args.folds.now c.args.out.now.items (none_below c.args.folds.now c.in-empty.len_below)

pub fold_made-requires-clause-asked : goal.fold_made-requires-clause-asked
fold_made-requires-clause-asked t c =
    let of = c.args.of.now in
    let is = first_and_rest c.args.folds.now c.fold-item.result c.in-len1-up.len_at_least c.fold-item.is in
    (subst (Each (IsFoldAsked of.nest.now (trees_of of.flow.now))) is c.requires.asked).0

pub fold_made-requires-clause-fit : goal.fold_made-requires-clause-fit
fold_made-requires-clause-fit t c =
    let of = c.args.of.now in
    let is = first_and_rest c.args.folds.now c.fold-item.result c.in-len1-up.len_at_least c.fold-item.is in
    (subst (Each (FoldFits of.nest.now of.schedule.now (trees_of of.flow.now))) is c.requires.fit).0

pub add_made-requires : goal.add_made-requires
add_made-requires t c =
    let of = c.args.of.now in
    let trees = trees_of of.flow.now in
    let is = first_and_rest c.args.folds.now c.fold-item.result c.in-len1-up.len_at_least c.fold-item.is in
    let l = ap length is in (
      omega (arith, c.decreases, l),
      (c.requires.setting, ((subst (Each (IsFoldAsked of.nest.now trees)) is c.requires.asked).1, (subst (Each (FoldFits of.nest.now of.schedule.now trees)) is c.requires.fit).1)),
    )

pub returns-in_ok-push-in-len1-up : goal.returns-in_ok-push-in-len1-up
returns-in_ok-push-in-len1-up t c =
    let of = c.args.of.now in
    let cs = c.args.folds.now in
    let x = c.fold-item.result in
    let made = c.in_ok-made-in-len1-up.made in
    on_ok_weaker c.add_made.result
    (λ e. next_made of.nest.now of.schedule.now (trees_of of.flow.now) cs (take (length cs - 1) (drop 1 cs)) x (x.array, made) c.args.out.now.items c.push.new.self.items c.add_made.new.out.items
    (first_and_rest cs x c.in-len1-up.len_at_least c.fold-item.is) (λ f said. record { array = sym said.array; shown = c.in_ok-made-in-len1-up.ensures f said })
    c.in_ok-push-in-len1-up.ensures.items e) c.add_made.ensures
