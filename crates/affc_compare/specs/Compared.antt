-- What a comparison in an order says.
use Rattle.std.specs.Prelude.{◌≡◌, ◌↔◌, List}
use Rattle.std.specs.declared.cmp.Ordering.{Ordering}
use Rattle.std.specs.declared.cmp.Ordering.TheVariants.{Less, Equal, Greater}
use Rattle.affc_ast.specs.declared.tree.Instance.{Instance}
use Rattle.affc_trace.specs.Orders.{Earlier}

-- less exactly where a stands before b in the order, greater exactly where it stands behind, and equal exactly where
-- they are the same
pub record IsOrderIn (order : List Instance) (a b : Instance) (o : Ordering) : Type 0 where
  pub less : (o ≡ Less) ↔ Earlier order a b
  pub equal : (o ≡ Equal) ↔ (a ≡ b)
  pub greater : (o ≡ Greater) ↔ Earlier order b a
