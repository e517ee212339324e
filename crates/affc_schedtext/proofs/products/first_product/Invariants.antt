use Rattle.std.proofs.Common.{◌≡◌, map, drop}
use Rattle.affc_syntax.specs.draft.Symbols.{seen}
use Rattle.affc_schedtext.specs.Products.{walk_seen, walked, start}
use Rattle.affc_schedtext.proofs.products.first_product.Given as goal

abbrev pub invariant-loop-at : goal.invariant-loop-at
invariant-loop-at l = walked l.at (walk_seen l.walk) (map seen (drop l.at l.symbols)) ≡ walked 0 start (map seen l.symbols)
