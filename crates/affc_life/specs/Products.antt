-- Clash systems in product form.
use Rattle.std.specs.Prelude.{List, map}
use Rattle.affc_system.specs.declared.pairs.PairSystem.{PairSystem}
use Rattle.affc_nest.specs.Domains.{with_rows}
use Rattle.affc_products.specs.Blocks.{choices}
use Rattle.affc_life.specs.declared.clash.ClashProduct.{ClashProduct}
use Rattle.affc_life.specs.declared.product.Found.{Found}

-- its clash systems: the base's, with each choice behind its rows
abbrev pub systems_in : ClashProduct → List PairSystem
systems_in p = map (λ rows. record p.base { system = with_rows p.base.system rows }) (choices p.factors)

-- the one that was found
abbrev pub found_system : Found → PairSystem
found_system f = record f.product.now.base { system = with_rows f.product.now.base.system f.rows }
