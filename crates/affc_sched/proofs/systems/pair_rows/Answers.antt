use Rattle.std.proofs.Common.{◌+◌, ◌≤◌, ℕ, Fits, w32, rules, arith, length, sym, ap, subst, ◌∙◌}
use Rattle.std.specs.List.{All}
use Rattle.affc_system.specs.Systems.{IsRow}
use Rattle.affc_nest.specs.Sides.{IsSide}
use Rattle.affc_nest.proofs.QuestionProofs.{nest_few, few_numbered, domain_small}
use Rattle.affc_order.specs.Spread.{spread}
use Rattle.affc_sched.proofs.PairLemmas.{stands_in, columns_of_pair, subs_sides, both_few, pair_few, mapped_few, pair_made}
use Rattle.affc_sched.proofs.systems.pair_rows.Goals as goal

few_fit : (n : ℕ) → n ≤ 128 → Fits w32 n
few_fit n h = first_of (omega (arith, h), search (rules, h), grind (arith, h))

pub overflow_cast-outer : goal.overflow_cast-outer
overflow_cast-outer c =
    let few = few_numbered c.args.nest.now c.args.a.now c.requires.nest c.requires.first in
    let long = c.len-outer.ensures in
    few_fit _ (omega arith)

pub overflow_cast-inner : goal.overflow_cast-inner
overflow_cast-inner c =
    let few = few_numbered c.args.nest.now c.args.b.now c.requires.nest c.requires.second in
    let long = c.len-inner.ensures in
    few_fit _ (omega arith)

pub both_domains-requires-clause-columns : goal.both_domains-requires-clause-columns
both_domains-requires-clause-columns c =
    let params : length c.ranges-2.result.now ≤ 4 = subst (λ rs. length rs ≤ 4) (sym c.ranges-2.ensures.ranges) (nest_few c.args.nest.now c.requires.nest) in
    let few = few_numbered c.args.nest.now c.args.a.now c.requires.nest c.requires.first in
    let long = c.len-outer.ensures in
    let few' = few_numbered c.args.nest.now c.args.b.now c.requires.nest c.requires.second in
    let long' = c.len-inner.ensures in
    omega arith

pub both_domains-requires-clause-first : goal.both_domains-requires-clause-first
both_domains-requires-clause-first c =
    (stands_in c.args.nest.now c.requires.nest c.args.a.now c.requires.first).columns
    ∙ ap (λ k. k + length c.args.a.now.loops) (ap length (sym c.ranges-2.ensures.ranges)) ∙ ap (λ k. length c.ranges-2.result.now + k) (sym c.len-outer.ensures)

pub both_domains-requires-clause-second : goal.both_domains-requires-clause-second
both_domains-requires-clause-second c =
    subst (λ k. All (IsRow k) c.own_rows-own.result.now)
    ((stands_in c.args.nest.now c.requires.nest c.args.b.now c.requires.second).columns
    ∙ ap (λ k. k + length c.args.b.now.loops) (ap length (sym c.ranges-2.ensures.ranges)) ∙ ap (λ k. length c.ranges-2.result.now + k) (sym c.len-inner.ensures))
    c.own_rows-own.ensures.fit

pub both_domains-requires-clause-few : goal.both_domains-requires-clause-few
both_domains-requires-clause-few c = domain_small c.args.nest.now c.args.a.now c.requires.nest c.requires.first

pub add_equal-requires-clause-firsts : goal.add_equal-requires-clause-firsts
add_equal-requires-clause-firsts c =
    subst (All (IsSide (length c.ranges-2.result.now + c.len-outer.result))) (sym c.as_slice-xs.ensures)
    (subst (λ k. All (IsSide k) c.args.x.now.subs) (ap (λ k. k + length c.args.a.now.loops) (ap length (sym c.ranges-2.ensures.ranges)) ∙ ap (λ k. length c.ranges-2.result.now + k) (sym c.len-outer.ensures))
    (subs_sides c.args.nest.now c.requires.nest c.args.a.now c.requires.first c.args.x.now c.requires.from))

pub add_equal-requires-clause-seconds : goal.add_equal-requires-clause-seconds
add_equal-requires-clause-seconds c =
    subst (All (IsSide (length c.ranges-2.result.now + c.len-inner.result))) (sym c.as_slice-ys.ensures)
    (subst (λ k. All (IsSide k) c.args.y.now.subs) (ap (λ k. k + length c.args.b.now.loops) (ap length (sym c.ranges-2.ensures.ranges)) ∙ ap (λ k. length c.ranges-2.result.now + k) (sym c.len-inner.ensures))
    (subs_sides c.args.nest.now c.requires.nest c.args.b.now c.requires.second c.args.y.now c.requires.to))

pub add_equal-requires-clause-room : goal.add_equal-requires-clause-room
add_equal-requires-clause-room c =
    let h : length c.in_ok-system.system.rows ≤ 268 =
    both_few (spread (length c.ranges-2.result.now) 0 c.len-inner.result) (spread (length c.ranges-2.result.now) c.len-outer.result 0) c.args.a.now.domain.rows c.own_rows-own.result.now c.in_ok-system.system _ c.in_ok-system.ensures.value
    (domain_small c.args.nest.now c.args.a.now c.requires.nest c.requires.first) c.own_rows-own.ensures.few in
    let g : length c.as_slice-xs.result.now ≤ 4 = subst (λ fs. length fs ≤ 4) (sym c.as_slice-xs.ensures) c.requires.few in
    omega arith

pub returns-clause-value : goal.returns-clause-value
returns-clause-value c =
    pair_made c.args.nest.now c.args.a.now c.args.b.now c.args.x.now c.args.y.now c.ranges-2.result.now c.len-outer.result c.len-inner.result c.own_rows-own.result.now c.as_slice-xs.result.now c.as_slice-ys.result.now
    c.in_ok-system.system c.add_equal.new.system c.ranges-2.ensures.ranges c.len-outer.ensures c.len-inner.ensures c.own_rows-own.ensures.rows c.as_slice-xs.ensures c.as_slice-ys.ensures
    (columns_of_pair c.args.nest.now c.requires.nest c.args.a.now c.args.b.now c.requires.first c.requires.second) c.in_ok-system.ensures.value c.in_ok-add_equal.ensures

pub returns-clause-few : goal.returns-clause-few
returns-clause-few c =
    pair_few _ _ c.in_ok-system.system c.add_equal.new.system c.in_ok-add_equal.ensures
    (both_few (spread (length c.ranges-2.result.now) 0 c.len-inner.result) (spread (length c.ranges-2.result.now) c.len-outer.result 0) c.args.a.now.domain.rows c.own_rows-own.result.now c.in_ok-system.system _ c.in_ok-system.ensures.value
    (domain_small c.args.nest.now c.args.a.now c.requires.nest c.requires.first) c.own_rows-own.ensures.few)
    (mapped_few (spread (length c.ranges-2.result.now) 0 c.len-inner.result) c.as_slice-xs.result.now c.args.x.now.subs c.as_slice-xs.ensures c.requires.few)
