use Rattle.std.proofs.Common.{◌≡◌, ◌+◌, Some, subst}
use Rattle.std.specs.Prelude.{slice_get}
use Rattle.affc_moduli.proofs.Ties.{before_more, before_raised}
use Rattle.affc_moduli.proofs.extremes.both_ways.Goals as goal

pub returns-clause-forward : goal.returns-clause-forward
returns-clause-forward c =
    let regions = c.args.asked.now.regions.now in
    let forms = c.args.asked.now.line.fs.now in
    let way = c.forward_at-forward.result in
    let there = subst (λ n. slice_get regions n ≡ Some way.region.now) c.forward_at-forward.ensures.number c.forward_at-forward.ensures.way.region in
    let first = c.in_ok-once.once in
    let second = c.in_ok-twice.twice in
    before_raised (c.args.i + 1) regions forms first.level second.level c.in_ok-twice.ensures.rises
    (before_more c.args.i regions forms first.level way.region.now way.form.now there c.forward_at-forward.ensures.form (before_raised c.args.i regions forms c.args.sought.level first.level c.in_ok-once.ensures.rises c.requires.forward) c.in_ok-once.ensures.bounded)

pub returns-clause-backward : goal.returns-clause-backward
returns-clause-backward c =
    let regions = c.args.asked.now.regions.now in
    let forms = c.args.asked.now.line.gs.now in
    let way = c.backward_at-backward.result in
    let there = subst (λ n. slice_get regions n ≡ Some way.region.now) c.backward_at-backward.ensures.number c.backward_at-backward.ensures.way.region in
    let first = c.in_ok-once.once in
    let second = c.in_ok-twice.twice in
    before_more c.args.i regions forms second.level way.region.now way.form.now there c.backward_at-backward.ensures.form
    (before_raised c.args.i regions forms first.level second.level c.in_ok-twice.ensures.rises (before_raised c.args.i regions forms c.args.sought.level first.level c.in_ok-once.ensures.rises c.requires.backward))
    c.in_ok-twice.ensures.bounded
