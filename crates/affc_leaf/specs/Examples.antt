-- What the definitions give at small boxes. Each value was found by hand from the rules.
use Rattle.std.specs.Prelude.{◌≡◌, ℕ, List, [], ◌∷◌, ℤ, pos, negsuc, Box}
use Rattle.std.specs.declared.alloc.Global.{Global}
use Rattle.std.specs.declared.vec.Vec.{Vec}
use Rattle.affc_rows.specs.Forms.{Affine}
use Rattle.affc_system.specs.Order.{LexLe}
use Rattle.affc_system.specs.Systems.{Rows}
use Rattle.affc_farkas.specs.declared.proof.Proof.{Proof, Leaf, Cut', Split'}
use Rattle.affc_simplex.specs.declared.bounds.Bound.{Bound}
use Rattle.affc_leaf.specs.Points.{points}
use Rattle.affc_leaf.specs.Boxed.{SplitsAtZero, IsLeafProof, IsHard}
use Rattle.affc_leaf.specs.Cuts.{IsDivided}
use Rattle.affc_leaf.specs.BoxCuts.{without, behind, sum_with, IsSeen}
use Rattle.affc_leaf.specs.declared.box_cuts.Seen.TheVariants.{Empty, Point, Nothing}
use Rattle.affc_leaf.specs.Fronts.{IsFront, IsPinned, pinned}

-- 0 to 9 are ten numbers, -2 to 2 five
abbrev pub TenTimesFivePoints : Type 0
TenTimesFivePoints = points ((pos 0, pos 9) ∷ (negsuc 1, pos 2) ∷ []) ≡ 50

-- (1, 9) is before (2, 0)
abbrev pub FirstColumnDecides : Type 0
FirstColumnDecides = LexLe (pos 1 ∷ pos 9 ∷ []) (pos 2 ∷ pos 0 ∷ []) × (LexLe (pos 2 ∷ pos 0 ∷ []) (pos 1 ∷ pos 9 ∷ []) → ⊥)

-- ---- Cuts where x is from 0 to 9 and y from 1 to 3

-- the row a x + b y + c
abbrev pub plane : ℤ → ℤ → ℤ → Affine
plane a b c = record { coefs = a ∷ b ∷ []; constant = c }

abbrev pub ten_by_three : List Bound
ten_by_three = record { low = pos 0; high = pos 9; low_row = 0; high_row = 1 } ∷ record { low = pos 1; high = pos 3; low_row = 2; high_row = 3 } ∷ []

-- x + 2 y - 7 with 2 y at its greatest, 6
abbrev pub PartIsAtItsGreatest : Type 0
PartIsAtItsGreatest = without (plane (pos 1) (pos 2) (negsuc 6)) (pos 0 ∷ pos 2 ∷ []) ten_by_three ≡ plane (pos 1) (pos 0) (negsuc 0)

-- x - 3 y + 7 with -y at its greatest, -1
abbrev pub PartOfAProductIsTaken : Type 0
PartOfAProductIsTaken = without (plane (pos 1) (negsuc 2) (pos 7)) (pos 0 ∷ negsuc 0 ∷ []) ten_by_three ≡ plane (pos 1) (negsuc 1) (pos 6)

-- 6 x + 3 y - 7 by 3 is 2 x + y - 3, and not 2 x + y - 2
abbrev pub ConstantIsRoundedDown : Type 0
ConstantIsRoundedDown =
    IsDivided (plane (pos 6) (pos 3) (negsuc 6)) (pos 3) (plane (pos 2) (pos 1) (negsuc 2))
    × (IsDivided (plane (pos 6) (pos 3) (negsuc 6)) (pos 3) (plane (pos 2) (pos 1) (negsuc 1)) → ⊥)

-- rows 0 and 2 behind ten others
abbrev pub RowsBehindTenOthers : Type 0
RowsBehindTenOthers = behind 10 ((0, 3) ∷ (2, 5) ∷ []) ≡ (10, 3) ∷ (12, 5) ∷ []

-- once x - y - 3 of the system, and twice 2 - x of the further rows
abbrev pub SumOfBothLists : Type 0
SumOfBothLists = sum_with (record { columns = 2; rows = plane (pos 1) (negsuc 0) (negsuc 2) ∷ [] }) (plane (negsuc 0) (pos 0) (pos 2) ∷ []) ((0, 1) ∷ []) ((0, 2) ∷ [])
    ≡ plane (negsuc 0) (negsuc 0) (pos 1)

-- ---- Fronts of that box where x is at least 2

abbrev pub from_two : Rows
from_two = record { columns = 2; rows = plane (pos 1) (pos 0) (negsuc 1) ∷ [] }

-- the box with one value of x
abbrev pub at_x : ℤ → List Bound
at_x v = pinned ten_by_three 0 v

-- what has an x of 2 comes before all points with another one, and (0, 1) is no point
abbrev pub LeastColumnIsAFront : Type 0
LeastColumnIsAFront = IsFront from_two ten_by_three (at_x (pos 2))

-- (2, 1) comes before (3, 1)
abbrev pub LaterColumnIsNoFront : Type 0
LaterColumnIsNoFront = IsFront from_two ten_by_three (at_x (pos 3)) → ⊥

-- (0, 1) isn't in the box with an x of 2
abbrev pub WiderPartIsNoFront : Type 0
WiderPartIsNoFront = IsFront from_two (at_x (pos 2)) ten_by_three → ⊥

-- the point (2, 1) isn't in the box with an x of 3
abbrev pub BoxIsItsOwnFront : Type 0
BoxIsItsOwnFront = IsFront from_two (at_x (pos 3)) (at_x (pos 3))

-- y is 2, its rows have their numbers, and x is as it was
abbrev pub OneValueIsLeft : Type 0
OneValueIsLeft = pinned ten_by_three 1 (pos 2) ≡ record { low = pos 0; high = pos 9; low_row = 0; high_row = 1 } ∷ record { low = pos 2; high = pos 2; low_row = 2; high_row = 3 } ∷ []

-- with an x of 2 the first column is pinned, the second isn't, and there is no third
abbrev pub FirstColumnIsPinned : Type 0
FirstColumnIsPinned = IsPinned 2 (at_x (pos 2)) 1 × (IsPinned 2 (at_x (pos 2)) 2 → ⊥) × (IsPinned 3 (at_x (pos 2)) 1 → ⊥)

-- from 3 to 1 is no range
abbrev pub TurnedRangeIsNone : Type 0
TurnedRangeIsNone = IsPinned 1 (record { low = pos 3; high = pos 1; low_row = 0; high_row = 1 } ∷ []) 0 → ⊥

-- ---- Proofs (the boxes hold the proofs in them)

-- a split of x + c at 2
abbrev pub split_of : ℤ → Box (Unit {0}) Global → Proof → Proof → Proof
split_of c p low high = Split' (plane (pos 1) (pos 0) c) (pos 2) p low p high

abbrev pub cut_before : Box (Unit {0}) Global → Proof → Proof
cut_before p rest = Cut' [] (pos 2) (plane (pos 1) (pos 0) (pos 0)) p rest

-- x + 1 is split nowhere: not at the root, on neither side, and not behind a cut
abbrev pub NoSplitOfMoreThanTheColumn : Type 0
NoSplitOfMoreThanTheColumn = (p : Box (Unit {0}) Global) → let bad : Proof = split_of (pos 1) p (Leaf []) (Leaf []) in
    (SplitsAtZero bad → ⊥) × (SplitsAtZero (split_of (pos 0) p bad (Leaf [])) → ⊥) × (SplitsAtZero (split_of (pos 0) p (Leaf []) bad) → ⊥) × (SplitsAtZero (cut_before p bad) → ⊥)

abbrev pub OnlyLeavesAreLeaves : Type 0
OnlyLeavesAreLeaves = (p : Box (Unit {0}) Global) → IsLeafProof (Leaf []) × (IsLeafProof (cut_before p (Leaf [])) → ⊥) × (IsLeafProof (split_of (pos 0) p (Leaf []) (Leaf [])) → ⊥)

-- ---- What elimination can't refute

-- no columns, and -1 >= 0
abbrev pub contradiction : Rows
contradiction = record { columns = 0; rows = record { coefs = []; constant = negsuc 0 } ∷ [] }

abbrev pub ContradictionIsNotHard : Type 0
ContradictionIsNotHard = IsHard contradiction → ⊥

-- 2 x - 1 >= 0 and 1 - 2 x >= 0, which a half meets
abbrev pub half : Rows
half = record { columns = 1; rows = record { coefs = pos 2 ∷ []; constant = negsuc 0 } ∷ record { coefs = negsuc 1 ∷ []; constant = pos 1 } ∷ [] }

abbrev pub HalfIsHard : Type 0
HalfIsHard = IsHard half

-- ---- What is seen of a box

-- the row -1 of no columns is below 0, and no row is the sum 0
abbrev pub SumBelowZeroIsSeen : Type 0
SumBelowZeroIsSeen = (one none : Box Proof Global) → one.value ≡ Leaf ((0, 1) ∷ []) → none.value ≡ Leaf []
    → IsSeen contradiction [] 1 (Empty one) × (IsSeen contradiction [] 1 (Empty none) → ⊥)

-- a cut that gives -1 again is row 1 where one row stands before it, and not where two do
abbrev pub CutIsTheNextRow : Type 0
CutIsTheNextRow = (p : Box (Unit {0}) Global) (cut : Box Proof Global) → cut.value ≡ Cut' ((0, 1) ∷ []) (pos 1) (record { coefs = []; constant = negsuc 0 }) p (Leaf ((1, 1) ∷ []))
    → IsSeen contradiction [] 1 (Empty cut) × (IsSeen contradiction [] 2 (Empty cut) → ⊥)

-- a split of x + 1 isn't asked for, though the row before it is -1
abbrev pub SplitOfMoreIsNotSeen : Type 0
SplitOfMoreIsNotSeen = (p : Box (Unit {0}) Global) (split : Box Proof Global) → split.value ≡ split_of (pos 1) p (Leaf ((0, 1) ∷ [])) (Leaf ((0, 1) ∷ []))
    → IsSeen (record { columns = 2; rows = plane (pos 0) (pos 0) (negsuc 0) ∷ [] }) [] 1 (Empty split) → ⊥

-- with (2, 1) in the box no proof is one that it has no point
abbrev pub BoxWithAPointIsNotEmpty : Type 0
BoxWithAPointIsNotEmpty = (proof : Box Proof Global) (next : ℕ) → IsSeen from_two ten_by_three next (Empty proof) → ⊥

-- (2, 1) is the least point; (3, 1) is another one, (1, 1) is none, and (2, 0) is none of the box
abbrev pub LeastPointIsSeen : Type 0
LeastPointIsSeen = (v : Vec ℤ Global) (next : ℕ)
    → (v.items ≡ pos 2 ∷ pos 1 ∷ [] → IsSeen from_two ten_by_three next (Point v))
    × (v.items ≡ pos 3 ∷ pos 1 ∷ [] → IsSeen from_two ten_by_three next (Point v) → ⊥)
    × (v.items ≡ pos 1 ∷ pos 1 ∷ [] → IsSeen from_two ten_by_three next (Point v) → ⊥)
    × (v.items ≡ pos 2 ∷ pos 0 ∷ [] → IsSeen from_two ten_by_three next (Point v) → ⊥)

-- nothing may be seen of any box
abbrev pub NothingMayBeSeen : Type 0
NothingMayBeSeen = IsSeen from_two ten_by_three 1 Nothing × IsSeen contradiction [] 1 Nothing
