use Rattle.std.proofs.Common.{subst, ◌∙◌}
use Rattle.std.proofs.lemmas.Result.{IfOk-weaker}
use Rattle.affc_order.proofs.CodeLemmas.{is_nest}
use Rattle.affc_sched.specs.Pairs.{IsGroupOf, asked_of}
use Rattle.affc_legal.proofs.RangeLemmas.{are_ranges}
use Rattle.affc_legal.proofs.SettlingLemmas.{pair_answered, ranges_fit}
use Rattle.affc_legal.proofs.settling.settle_pair.Goals as goal

pub settle_systems-requires-clause-ranges : goal.settle_systems-requires-clause-ranges
settle_systems-requires-clause-ranges c =
    let nest = c.args.nest.now in
    let p = c.args.pair.now in
    let h = c.requires.pair in
    are_ranges nest (is_nest nest c.args.schedule.now c.requires.asked.scheduled) p.from.entry.now p.to.entry.now h.from.there h.to.there h.from.alive h.to.alive c.in_ok-ranges.ranges c.in_ok-ranges.ensures

pub settle_systems-requires-clause-columns : goal.settle_systems-requires-clause-columns
settle_systems-requires-clause-columns c =
    let nest = c.args.nest.now in
    let group = subst (λ g. IsGroupOf g (asked_of c.args.nest.now c.args.schedule.now c.args.pair.now)) c.in-Some.is c.in_ok-group.ensures in
    ranges_fit nest c.args.schedule.now c.args.pair.now c.as_slice.result.now c.in_ok-ranges.ranges (c.as_slice.ensures.value ∙ c.in_ok-systems.ensures ∙ group.0) c.in_ok-ranges.ensures
    (is_nest nest c.args.schedule.now c.requires.asked.scheduled) c.requires.pair

pub returns-clause-answered : goal.returns-clause-answered
returns-clause-answered c =
    let group = subst (λ g. IsGroupOf g (asked_of c.args.nest.now c.args.schedule.now c.args.pair.now)) c.in-Some.is c.in_ok-group.ensures in
    IfOk-weaker c.settle_systems.result _ _
    (λ found e. pair_answered c.args.nest.now c.args.schedule.now c.args.pair.now c.as_slice.result.now c.in_ok-ranges.ranges (c.as_slice.ensures.value ∙ c.in_ok-systems.ensures ∙ group.0) c.in_ok-ranges.ensures
    c.args.out.now.items c.settle_systems.new.out.items found e)
    c.settle_systems.ensures.answered
