-- What leaves say of their tree.
use Rattle.std.specs.Prelude.{◌≡◌, ℕ, ◌+◌, ◌^◌, ◌≤◌, ℤ, unsigned_abs, List, ◌++◌, length, Some}
use Rattle.std.specs.List.{All}
use Rattle.affc_rows.specs.Forms.{HaveColumns}
use Rattle.affc_system.specs.Boxes.{InBox}
use Rattle.affc_system.specs.Pairs.{WithinReach}
use Rattle.affc_system.specs.Systems.{Met}
use Rattle.affc_trace.specs.Law.{IsIn}
use Rattle.affc_order.specs.Posed.{Posed}
use Rattle.affc_quast.specs.Leaves.{Leaf, leaves_of, path_ranges}
use Rattle.affc_quast.specs.Limits.{Shaped}
use Rattle.affc_quast.specs.Trees.{Tree, named_at, instance_at, quotients_at}

-- the leaf to which a point leads: its rows are met there, with the quotients behind the point
pub record Leads (tree : Tree) (xs : List ℤ) (leaf : Leaf) : Type 0 where
  pub of_tree : IsIn leaf (leaves_of (length xs) tree)
  pub width : length (xs ++ quotients_at tree xs) ≡ leaf.columns
  pub meets : Met (xs ++ quotients_at tree xs) leaf.rows

-- Each point leads to a leaf.
abbrev pub LeafIsReached : Type 0
LeafIsReached = (tree : Tree) (xs : List ℤ) → Shaped (length xs) tree → (leaf : Leaf) × Leads tree xs leaf

-- Where a leaf's rows are met, the columns behind the point are the quotients, and the tree names what the leaf names.
abbrev pub LeafIsNamed : Type 0
LeafIsNamed = (tree : Tree) (xs qs : List ℤ) (leaf : Leaf) → Shaped (length xs) tree → IsIn leaf (leaves_of (length xs) tree)
    → length (xs ++ qs) ≡ leaf.columns → Met (xs ++ qs) leaf.rows
    → (qs ≡ quotients_at tree xs) × (named_at tree xs ≡ instance_at leaf.named (xs ++ qs))

-- ---- What a leaf is over

-- A leaf under so many columns: its divisions are columns more, no row sees more than these, and the instance that it names
-- is over them.
pub record IsOver (columns : ℕ) (leaf : Leaf) : Type 0 where
  pub width : leaf.columns ≡ columns + length leaf.divisions
  pub rows : All (λ r. length r.coefs ≤ leaf.columns) leaf.rows
  pub named : (a : Posed) → leaf.named ≡ Some a → HaveColumns leaf.columns a.iterators

abbrev pub LeavesAreOver : Type 0
LeavesAreOver = (columns : ℕ) (tree : Tree) (leaf : Leaf) → Shaped columns tree → IsIn leaf (leaves_of columns tree) → IsOver columns leaf

-- Where a leaf's rows are met and the quotients are within 2^60, the ranges of its columns hold the point.
abbrev pub LeafIsBoxed : Type 0
LeafIsBoxed = (tree : Tree) (xs qs : List ℤ) (ranges : List (ℤ × ℤ)) (leaf : Leaf) → Shaped (length xs) tree → IsIn leaf (leaves_of (length xs) tree)
    → InBox ranges xs → All (λ q. unsigned_abs q ≤ 2 ^ 60) (quotients_at tree xs)
    → length (xs ++ qs) ≡ leaf.columns → Met (xs ++ qs) leaf.rows
    → InBox (path_ranges ranges leaf.divisions) (xs ++ qs)

-- there is one for each column, within 2^60 where those of the first columns are
pub record AreRanges (ranges : List (ℤ × ℤ)) (leaf : Leaf) : Type 0 where
  pub each : length (path_ranges ranges leaf.divisions) ≡ length ranges + length leaf.divisions
  pub near : All WithinReach ranges → All WithinReach (path_ranges ranges leaf.divisions)

abbrev pub RangesOfLeaf : Type 0
RangesOfLeaf = (ranges : List (ℤ × ℤ)) (leaf : Leaf) → AreRanges ranges leaf
