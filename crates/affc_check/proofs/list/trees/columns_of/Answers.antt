use Rattle.std.proofs.Common.{◌≡◌, ◌+◌, ◌≤◌, ℕ, Fits, w32, rules, length, arith}
use Rattle.affc_nest.proofs.QuestionProofs.{nest_few, few_numbered}
use Rattle.affc_check.proofs.list.trees.columns_of.Goals as goal

few_fit : (n : ℕ) → n ≤ 128 → Fits w32 n
few_fit n h = first_of (omega (arith, h), search (rules, h), grind (arith, h))

sum_few : (a b m l : ℕ) → a ≡ m → b ≡ l → m ≤ 4 → l ≤ 6 → a + b ≤ 10
sum_few a b m l e f h g = omega (arith, e, f, h, g)

sum_is : (a b m l : ℕ) → a ≡ m → b ≡ l → a + b ≡ m + l
sum_is a b m l e f = omega (arith, e, f)

pub params_in-requires : goal.params_in-requires
params_in-requires c = nest_few c.args.nest.now c.requires.nested

pub coordinates-requires : goal.coordinates-requires
coordinates-requires c = few_numbered c.args.nest.now c.args.reader.now c.requires.nested c.requires.reads

pub overflow_add-result : goal.overflow_add-result
overflow_add-result c =
    let h = sum_few c.params_in.result c.coordinates.result (length c.args.nest.now.params) (length c.args.reader.now.loops) c.params_in.ensures c.coordinates.ensures (nest_few c.args.nest.now c.requires.nested)
    (few_numbered c.args.nest.now c.args.reader.now c.requires.nested c.requires.reads) in
    few_fit _ (omega (arith, h))

pub returns : goal.returns
returns c = record {
  value = sum_is c.params_in.result c.coordinates.result (length c.args.nest.now.params) (length c.args.reader.now.loops) c.params_in.ensures c.coordinates.ensures;
  few = sum_few c.params_in.result c.coordinates.result (length c.args.nest.now.params) (length c.args.reader.now.loops) c.params_in.ensures c.coordinates.ensures (nest_few c.args.nest.now c.requires.nested)
      (few_numbered c.args.nest.now c.args.reader.now c.requires.nested c.requires.reads);
}
