use Rattle.std.proofs.Common.{◌+◌, ◌≤◌, ℕ, Fits, w32, rules, arith, length, sym, ap, subst, ◌∙◌}
use Rattle.std.specs.List.{All}
use Rattle.affc_nest.specs.Sides.{IsSide}
use Rattle.affc_nest.proofs.QuestionProofs.{nest_few, few_numbered, domain_small}
use Rattle.affc_order.specs.Spread.{spread}
use Rattle.affc_sched.proofs.PairLemmas.{stands_in, columns_of_pair, subs_sides, pair_few, mapped_few}
use Rattle.affc_latest.proofs.BesideLemmas.{store_made, domain_kept}
use Rattle.affc_latest.proofs.pairs.store_rows.Goals as goal

few_fit : (n : ℕ) → n ≤ 128 → Fits w32 n
few_fit n h = first_of (omega (arith, h), search (rules, h), grind (arith, h))

pub overflow_cast-outer : goal.overflow_cast-outer
overflow_cast-outer c =
    let few = few_numbered c.args.nest.now c.args.writer.now c.requires.nest c.requires.first in
    let long = c.coordinates-outer.ensures in
    few_fit _ (omega arith)

pub overflow_cast-inner : goal.overflow_cast-inner
overflow_cast-inner c =
    let few = few_numbered c.args.nest.now c.args.reader.now c.requires.nest c.requires.second in
    let long = c.coordinates-inner.ensures in
    few_fit _ (omega arith)

pub first_domain-requires-clause-columns : goal.first_domain-requires-clause-columns
first_domain-requires-clause-columns c =
    let params : length c.ranges-2.result.now ≤ 4 = subst (λ rs. length rs ≤ 4) (sym c.ranges-2.ensures.ranges) (nest_few c.args.nest.now c.requires.nest) in
    let few = few_numbered c.args.nest.now c.args.writer.now c.requires.nest c.requires.first in
    let long = c.coordinates-outer.ensures in
    let few' = few_numbered c.args.nest.now c.args.reader.now c.requires.nest c.requires.second in
    let long' = c.coordinates-inner.ensures in
    omega arith

pub first_domain-requires-clause-first : goal.first_domain-requires-clause-first
first_domain-requires-clause-first c =
    (stands_in c.args.nest.now c.requires.nest c.args.writer.now c.requires.first).columns
    ∙ ap (λ k. k + length c.args.writer.now.loops) (ap length (sym c.ranges-2.ensures.ranges)) ∙ ap (λ k. length c.ranges-2.result.now + k) (sym c.coordinates-outer.ensures)

pub first_domain-requires-clause-few : goal.first_domain-requires-clause-few
first_domain-requires-clause-few c = domain_small c.args.nest.now c.args.writer.now c.requires.nest c.requires.first

pub add_equal-requires-clause-firsts : goal.add_equal-requires-clause-firsts
add_equal-requires-clause-firsts c =
    subst (All (IsSide (length c.ranges-2.result.now + c.coordinates-outer.result))) (sym c.as_slice-ys.ensures)
    (subst (λ k. All (IsSide k) c.args.store.now.subs) (ap (λ k. k + length c.args.writer.now.loops) (ap length (sym c.ranges-2.ensures.ranges)) ∙ ap (λ k. length c.ranges-2.result.now + k) (sym c.coordinates-outer.ensures))
    (subs_sides c.args.nest.now c.requires.nest c.args.writer.now c.requires.first c.args.store.now c.requires.from))

pub add_equal-requires-clause-seconds : goal.add_equal-requires-clause-seconds
add_equal-requires-clause-seconds c =
    subst (All (IsSide (length c.ranges-2.result.now + c.coordinates-inner.result))) (sym c.as_slice-xs.ensures)
    (subst (λ k. All (IsSide k) c.args.load.now.subs) (ap (λ k. k + length c.args.reader.now.loops) (ap length (sym c.ranges-2.ensures.ranges)) ∙ ap (λ k. length c.ranges-2.result.now + k) (sym c.coordinates-inner.ensures))
    (subs_sides c.args.nest.now c.requires.nest c.args.reader.now c.requires.second c.args.load.now c.requires.to))

pub add_equal-requires-clause-room : goal.add_equal-requires-clause-room
add_equal-requires-clause-room c =
    let h : length c.in_ok-system.system.rows ≤ 134 =
    domain_kept (spread (length c.ranges-2.result.now) 0 c.coordinates-inner.result) c.args.writer.now.domain.rows c.in_ok-system.system _ c.in_ok-system.ensures.value (domain_small c.args.nest.now c.args.writer.now c.requires.nest c.requires.first) in
    let g : length c.as_slice-ys.result.now ≤ 4 = subst (λ fs. length fs ≤ 4) (sym c.as_slice-ys.ensures) c.requires.few in
    omega arith

pub returns-clause-value : goal.returns-clause-value
returns-clause-value c =
    store_made c.args.nest.now c.args.writer.now c.args.reader.now c.args.store.now c.args.load.now c.ranges-2.result.now c.coordinates-outer.result c.coordinates-inner.result c.as_slice-ys.result.now c.as_slice-xs.result.now
    c.in_ok-system.system c.add_equal.new.system c.ranges-2.ensures.ranges c.coordinates-outer.ensures c.coordinates-inner.ensures c.as_slice-ys.ensures c.as_slice-xs.ensures
    (columns_of_pair c.args.nest.now c.requires.nest c.args.writer.now c.args.reader.now c.requires.first c.requires.second) c.in_ok-system.ensures.value c.in_ok-add_equal.ensures

pub returns-clause-few : goal.returns-clause-few
returns-clause-few c =
    let h : length c.in_ok-system.system.rows ≤ 134 =
    domain_kept (spread (length c.ranges-2.result.now) 0 c.coordinates-inner.result) c.args.writer.now.domain.rows c.in_ok-system.system _ c.in_ok-system.ensures.value (domain_small c.args.nest.now c.args.writer.now c.requires.nest c.requires.first) in
    pair_few _ _ c.in_ok-system.system c.add_equal.new.system c.in_ok-add_equal.ensures (omega (arith, h))
    (mapped_few (spread (length c.ranges-2.result.now) 0 c.coordinates-inner.result) c.as_slice-ys.result.now c.args.store.now.subs c.as_slice-ys.ensures c.requires.few)
