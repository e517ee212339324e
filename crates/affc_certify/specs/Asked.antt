-- What the draft of a certificate is asked of, and its folds.
use Rattle.std.specs.Prelude.{◌≡◌, ℕ, List, length, map}
use Rattle.affc_trace.specs.declared.schedule.Schedule.{Schedule}
use Rattle.affc_nest.specs.declared.nest.Nest.{Nest}
use Rattle.affc_quast.specs.Limits.{HaveShapes}
use Rattle.affc_quast.specs.Sources.{loads_before}
use Rattle.affc_quast.specs.Trees.{Tree}
use Rattle.affc_life.specs.Asked.{KeepLimits}
use Rattle.affc_life.specs.Clashes.{clash_of, clashes}
use Rattle.affc_life.specs.Sizes.{AnyLarge}
use Rattle.affc_life.specs.declared.clash.ClashProduct.{ClashProduct}
use Rattle.affc_check.specs.list.Walks.{clash_systems}

-- a tree for each load within the widest limits, and no further trees
pub record AreAsked (nest : Nest) (trees : List Tree) : Type 0 where
  pub shapes : HaveShapes nest trees
  pub limits : KeepLimits nest trees
  pub no_more : length trees ≡ loads_before nest.entries (length nest.entries)

-- the clash systems of an array in product form, of which none passes the limits
pub record AreClashesOf (nest : Nest) (trees : List Tree) (schedule : Schedule) (array : ℕ) (products : List ClashProduct) : Type 0 where
  pub same : map clash_of (clash_systems products) ≡ clashes nest trees schedule array
  pub fit : ¬ (AnyLarge (clashes nest trees schedule array))
