-- Questions in groups: each is the rows of the front with one alternative of each factor behind them.
use Rattle.std.specs.Prelude.{List}
use Rattle.affc_system.specs.Systems.{Rows}
use Rattle.affc_products.specs.Products.{product}
use Rattle.affc_products.specs.declared.group.Group.{Group}

abbrev pub group_systems : Group → List Rows
group_systems g = product g.columns g.front g.factors
