use Rattle.std.proofs.Common.{◌≡◌, ◌+◌, ◌*◌, ◌++◌, ◌∷◌, [], length, take}
use Rattle.std.specs.List.{flat_map}
use Rattle.affc_products.specs.Products.{product}
use Rattle.affc_products.specs.Chosen.{rows_of}
use Rattle.affc_products.proofs.copies.+systems.Given as goal

abbrev pub decreases-add_factors : goal.decreases-add_factors
decreases-add_factors l = 3 * length l.factors.now

abbrev pub decreases-add_each : goal.decreases-add_each
decreases-add_each l = 3 * length l.later.now + 2

abbrev pub decreases-add_behind : goal.decreases-add_behind
decreases-add_behind l = 3 * length l.later.now + 1

abbrev pub invariant-add_each-loop-rows : goal.invariant-add_each-loop-rows
invariant-add_each-loop-rows l = record {
  same : rows_of l.chosen.items ≡ rows_of l.initial.chosen.items;
  added : l.out.items ≡ l.initial.out.items ++ flat_map (λ u. product l.columns (rows_of l.initial.chosen.items ++ u) (l.later ++ l.tails ∷ [])) (take l.rows-index l.first);
}
