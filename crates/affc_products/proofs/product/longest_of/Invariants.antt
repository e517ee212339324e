use Rattle.std.proofs.Common.{◌≡◌, max, drop}
use Rattle.affc_products.specs.Products.{longest}
use Rattle.affc_products.proofs.product.longest_of.Given as goal

abbrev pub invariant-loop-rows : goal.invariant-loop-rows
invariant-loop-rows l = max l.most (longest (drop l.rows-index l.alternatives)) ≡ longest l.alternatives
