use Rattle.std.proofs.Common.{◌≡◌, ◌+◌, ◌*◌, ◌++◌, ◌∷◌, [], length, take}
use Rattle.std.specs.List.{flat_map}
use Rattle.affc_products.specs.Products.{product}
use Rattle.affc_products.specs.Blocks.{AreProved}
use Rattle.affc_products.specs.Chosen.{rows_of}
use Rattle.affc_products.proofs.walk.+factors.Given as goal

abbrev pub decreases-check_factors : goal.decreases-check_factors
decreases-check_factors l = 3 * length l.factors.now

abbrev pub decreases-check_each : goal.decreases-check_each
decreases-check_each l = 3 * length l.later.now + 2

abbrev pub decreases-check_behind : goal.decreases-check_behind
decreases-check_behind l = 3 * length l.later.now + 1

abbrev pub invariant-check_each-loop-rows : goal.invariant-check_each-loop-rows
invariant-check_each-loop-rows l = record {
  same : rows_of l.chosen.items ≡ rows_of l.initial.chosen.items;
  proved : AreProved (flat_map (λ u. product l.columns (rows_of l.initial.chosen.items ++ u) (l.later ++ l.tails ∷ [])) (take l.rows-index l.first)) l.proofs l.left;
}
