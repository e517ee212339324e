-- The leaves behind paths, whose items are looked at.
use Rattle.std.proofs.Common.{◌≡◌, List, ◌++◌, flat_map, refl, subst}
use Rattle.affc_rows.specs.Forms.{Affine}
use Rattle.affc_quast.specs.Leaves as seen
use Rattle.affc_quast.specs.Leaves.{negated}
use Rattle.affc_quast.specs.Trees.{Tree, Test}
use Rattle.affc_quast.specs.declared.leaves.Leaf.{Leaf}
use Rattle.affc_life.specs.Paths.{with_row, leaves_under}
use Rattle.affc_life.proofs.PathLemmas.{test_flat}
use Rattle.affc_check.specs.Looked.{AreLooked}
use Rattle.affc_check.specs.list.Items.{Item}
use Rattle.affc_check.specs.list.Limits.{AnyPasses}
use Rattle.affc_check.specs.declared.checks.Looked.{Looked}
use Rattle.affc_check.proofs.LookLemmas.{looked_twice}
use Rattle.affc_check.proofs.list.PartLemmas.{passes_front, passes_behind}

module _ (F : seen.Leaf → List Item) (path front back : Leaf) (f : Affine) (on off tree first second : Tree) (test : tree ≡ Test f on off) (y : front ≡ with_row path f) (n : back ≡ with_row path (negated f)) (a : first ≡ on) (b : second ≡ off) where
  both_items : flat_map F (leaves_under front first) ++ flat_map F (leaves_under back second) ≡ flat_map F (leaves_under path tree)
  both_items = test_flat F path front back f on off tree first second test y n a b

  pub test_looked : (i j k : Looked) → AreLooked i j (flat_map F (leaves_under front first)) → AreLooked j k (flat_map F (leaves_under back second)) → AreLooked i k (flat_map F (leaves_under path tree))
  test_looked i j k h g = subst (AreLooked i k) both_items (looked_twice i j k (flat_map F (leaves_under front first)) (flat_map F (leaves_under back second)) h g)

  pub off_passes : AnyPasses (flat_map F (leaves_under back second)) → AnyPasses (flat_map F (leaves_under path tree))
  off_passes h = subst AnyPasses both_items (passes_behind (flat_map F (leaves_under front first)) (flat_map F (leaves_under back second)) h)

pub on_passes : (F : seen.Leaf → List Item) (path front : Leaf) (f : Affine) (on off tree first : Tree) → tree ≡ Test f on off → front ≡ with_row path f → first ≡ on → AnyPasses (flat_map F (leaves_under front first)) → AnyPasses (flat_map F (leaves_under path tree))
on_passes F path front f on off tree first test y a h =
    subst AnyPasses (both_items F path front (with_row path (negated f)) f on off tree first off test y refl a refl) (passes_front (flat_map F (leaves_under front first)) (flat_map F (leaves_under (with_row path (negated f)) off)) h)
