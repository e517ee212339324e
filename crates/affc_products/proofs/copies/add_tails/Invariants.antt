use Rattle.std.proofs.Common.{◌≡◌, ◌++◌, [], take}
use Rattle.std.specs.List.{flat_map}
use Rattle.affc_products.specs.Products.{product}
use Rattle.affc_products.specs.Chosen.{rows_of}
use Rattle.affc_products.proofs.copies.add_tails.Given as goal

abbrev pub invariant-loop-tail : goal.invariant-loop-tail
invariant-loop-tail l = record {
  same : rows_of l.chosen.items ≡ rows_of l.initial.chosen.items;
  added : l.out.items ≡ l.initial.out.items ++ flat_map (λ u. product l.columns (rows_of l.initial.chosen.items ++ u) []) (take l.tail-index l.tails);
}
