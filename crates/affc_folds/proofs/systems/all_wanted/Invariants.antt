use Rattle.std.specs.Prelude.{take}
use Rattle.std.specs.List.{flat_map}
use Rattle.affc_split.specs.Budgets.{IsLater}
use Rattle.affc_life.specs.Products.{systems_in}
use Rattle.affc_folds.specs.Systems.{AreKept}
use Rattle.affc_folds.proofs.systems.all_wanted.Given as goal

abbrev pub invariant-loop-product : goal.invariant-loop-product
invariant-loop-product l = record {
  kept : AreKept (flat_map systems_in (take l.product-index l.products)) l.all.items;
  later : IsLater l.initial.budget l.budget;
}
