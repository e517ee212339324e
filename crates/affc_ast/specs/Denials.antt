-- The denial of a condition: the condition that is true exactly where it isn't. It stands round what follows an `else` (6.8.4.1).
use Rattle.std.specs.Prelude.{not}
use Rattle.affc_ast.specs.declared.tree.Cond.{Cond}
use Rattle.affc_ast.specs.declared.tree.Cond.TheVariants as c
use Rattle.affc_ast.specs.declared.tree.Cond.TheOpen.{Cond-F, Compare, All, Any, Divides}
use Rattle.affc_ast.specs.declared.tree.Rel.{Rel}
use Rattle.affc_ast.specs.declared.tree.Rel.TheVariants.{Less, LessEqual, Greater, GreaterEqual, Equal, NotEqual}
use Rattle.affc_ast.specs.Recursion.{by_cond}

-- the relation that stands exactly where the other doesn't
abbrev pub opposite : Rel → Rel
opposite Less = GreaterEqual
opposite LessEqual = Greater
opposite Greater = LessEqual
opposite GreaterEqual = Less
opposite Equal = NotEqual
opposite NotEqual = Equal

abbrev pub denied_step : Cond-F Cond → Cond
denied_step (Compare rel left right) = c.Compare (opposite rel) left right
denied_step (All cs) = c.Any cs
denied_step (Any cs) = c.All cs
denied_step (Divides value by so) = c.Divides value by (not so)

abbrev pub denied : Cond → Cond
denied = by_cond denied_step
