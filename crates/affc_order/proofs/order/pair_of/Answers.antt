use Rattle.std.proofs.Common.{◌≡◌, ◌+◌, ◌≤◌, ℕ, Fits, w32, rules, arith, length, subst, sym}
use Rattle.affc_nest.proofs.QuestionProofs.{nest_few}
use Rattle.affc_order.specs.Systems.{coordinates_of}
use Rattle.affc_order.proofs.CodeLemmas.{few_loops}
use Rattle.affc_order.proofs.order.pair_of.Goals as goal

few_fit : (n : ℕ) → n ≤ 128 → Fits w32 n
few_fit n h = first_of (omega (arith, h), search (rules, h), grind (arith, h))

two : (m n k o i : ℕ) → m ≤ 4 → n ≡ o → o ≤ 6 → m + n ≤ 128
two m n k o i h e l = omega (arith, h, e, l)

three : (m n k o i : ℕ) → m ≤ 4 → n ≡ o → o ≤ 6 → k ≡ i → i ≤ 6 → (m + n) + k ≤ 128
three m n k o i h e l f g = omega (arith, h, e, l, f, g)

in_reach : (n : ℕ) → n ≤ 128 → n ≤ 1000
in_reach n h = omega (arith, h)

pub coordinates-outer-requires-clause-few : goal.coordinates-outer-requires-clause-few
coordinates-outer-requires-clause-few c = let few = few_loops c.args.nest.now c.requires.nest c.args.first c.requires.first in omega (arith, few)

pub coordinates-inner-requires-clause-few : goal.coordinates-inner-requires-clause-few
coordinates-inner-requires-clause-few c = let few = few_loops c.args.nest.now c.requires.nest c.args.second c.requires.second in omega (arith, few)

pub columns_from-requires : goal.columns_from-requires
columns_from-requires c =
    let params : length c.ranges-2.result.now ≤ 4 = subst (λ rs. length rs ≤ 4) (sym c.ranges-2.ensures.ranges) (nest_few c.args.nest.now c.requires.nest) in
    in_reach _ (two (length c.ranges-2.result.now) c.coordinates-outer.result 0 (coordinates_of c.args.nest.now c.args.first) 0 params c.coordinates-outer.ensures (few_loops c.args.nest.now c.requires.nest c.args.first c.requires.first))

pub columns_from-requires-2 : goal.columns_from-requires-2
columns_from-requires-2 c =
    let params : length c.ranges-2.result.now ≤ 4 = subst (λ rs. length rs ≤ 4) (sym c.ranges-2.ensures.ranges) (nest_few c.args.nest.now c.requires.nest) in
    in_reach _ (three (length c.ranges-2.result.now) c.coordinates-outer.result c.coordinates-inner.result (coordinates_of c.args.nest.now c.args.first) (coordinates_of c.args.nest.now c.args.second) params
    c.coordinates-outer.ensures (few_loops c.args.nest.now c.requires.nest c.args.first c.requires.first) c.coordinates-inner.ensures (few_loops c.args.nest.now c.requires.nest c.args.second c.requires.second))

pub overflow_add-columns : goal.overflow_add-columns
overflow_add-columns c =
    let params : length c.ranges-2.result.now ≤ 4 = subst (λ rs. length rs ≤ 4) (sym c.ranges-2.ensures.ranges) (nest_few c.args.nest.now c.requires.nest) in
    few_fit _ (two (length c.ranges-2.result.now) c.coordinates-outer.result 0 (coordinates_of c.args.nest.now c.args.first) 0 params c.coordinates-outer.ensures (few_loops c.args.nest.now c.requires.nest c.args.first c.requires.first))

pub overflow_add-params : goal.overflow_add-params
overflow_add-params c =
    let params : length c.ranges-2.result.now ≤ 4 = subst (λ rs. length rs ≤ 4) (sym c.ranges-2.ensures.ranges) (nest_few c.args.nest.now c.requires.nest) in
    few_fit _ (two (length c.ranges-2.result.now) c.coordinates-outer.result 0 (coordinates_of c.args.nest.now c.args.first) 0 params c.coordinates-outer.ensures (few_loops c.args.nest.now c.requires.nest c.args.first c.requires.first))

pub overflow_add-columns-2 : goal.overflow_add-columns-2
overflow_add-columns-2 c =
    let params : length c.ranges-2.result.now ≤ 4 = subst (λ rs. length rs ≤ 4) (sym c.ranges-2.ensures.ranges) (nest_few c.args.nest.now c.requires.nest) in
    few_fit _ (three (length c.ranges-2.result.now) c.coordinates-outer.result c.coordinates-inner.result (coordinates_of c.args.nest.now c.args.first) (coordinates_of c.args.nest.now c.args.second) params
    c.coordinates-outer.ensures (few_loops c.args.nest.now c.requires.nest c.args.first c.requires.first) c.coordinates-inner.ensures (few_loops c.args.nest.now c.requires.nest c.args.second c.requires.second))
