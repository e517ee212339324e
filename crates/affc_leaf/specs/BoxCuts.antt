-- Cuts of rows in a box, where some of its columns have one value, and proofs below them.
use Rattle.std.specs.Prelude.{◌≡◌, ℕ, ◌+◌, List, [], ◌∷◌, ◌++◌, map, ℤ, pos, neg_ℤ, Option, Some, None, Box}
use Rattle.std.specs.declared.alloc.Global.{Global}
use Rattle.std.specs.List.{All}
use Rattle.affc_rows.specs.Forms.{Affine, mixed_form}
use Rattle.affc_system.specs.Systems.{Rows, IsRow, IsPoint, Meets}
use Rattle.affc_farkas.specs.Multiples.{multiple_sum}
use Rattle.affc_farkas.specs.Proofs.{IsCut, IsValid}
use Rattle.affc_farkas.specs.declared.proof.Proof.{Proof}
use Rattle.affc_simplex.specs.declared.bounds.Bound.{Bound}
use Rattle.affc_leaf.specs.Bounds.{Inside, top}
use Rattle.affc_leaf.specs.Boxed.{SplitsAtZero}
use Rattle.affc_leaf.specs.Cuts.{IsCutBefore}
use Rattle.affc_leaf.specs.declared.box_cuts.Seen.{Seen}
use Rattle.affc_leaf.specs.declared.box_cuts.Seen.TheVariants.{Empty, Point, Nothing}
use Rattle.affc_leaf.specs.Parts.{Placed, IsEmpty, IsLeast}

-- the row less a part of its products, with the greatest value of that part over the box in their place
abbrev pub without : Affine → List ℤ → List Bound → Affine
without row part bounds = mixed_form (pos 1) row (pos 1) (record { coefs = map neg_ℤ part; constant = top part bounds })

-- the row holds at each point of the system in the box, and is this cut below all rows in which the bounds stand
pub record IsBoxCut (system : Rows) (bounds : List Bound) (by : List (ℕ × ℕ)) (g : ℤ) (row : Affine) : Type 0 where
  pub fit : IsRow system.columns row
  pub meets : (x : List ℤ) → Inside bounds x → IsPoint system x → Meets x row
  pub cuts : (next : ℕ) (rows : List Affine) → Placed system rows next bounds → IsCut system.columns rows by g row

-- no point of the system in the box meets these further rows, and a proof of it below all rows in which the bounds stand, with these after them
pub record IsEmptyWith (system : Rows) (bounds : List Bound) (next : ℕ) (cuts : List Affine) (proof : Proof) : Type 0 where
  pub none : (x : List ℤ) → Inside bounds x → IsPoint system x → All (Meets x) cuts → ⊥
  pub valid : (rows : List Affine) → Placed system rows next bounds → IsValid system.columns proof (rows ++ cuts)
  pub plain : SplitsAtZero proof

-- the numbers of rows that stand behind so many others
abbrev pub behind : ℕ → List (ℕ × ℕ) → List (ℕ × ℕ)
behind n [] = []
behind n (p ∷ ps) = (n + p.0, p.1) ∷ behind n ps

-- the sum of multiples of the system's rows and of further rows
abbrev pub sum_with : Rows → List Affine → List (ℕ × ℕ) → List (ℕ × ℕ) → Affine
sum_with system cuts own over = mixed_form (pos 1) (multiple_sum system.columns system.rows own) (pos 1) (multiple_sum system.columns cuts over)

-- what is seen of a box: a proof that it has no point, or its least one
abbrev pub IsSeen : Rows → List Bound → ℕ → Seen → Type 0
IsSeen system bounds next (Empty proof) = IsEmpty system bounds next proof.value
IsSeen system bounds next (Point point) = IsLeast system bounds point.items
IsSeen system bounds next Nothing = Unit {0}

-- a proof without a cut, by the one with it
abbrev pub IsProofBehind : List (ℕ × ℕ) → ℤ → Affine → Option (Box Proof Global) → Option (Box Proof Global) → Type 0
IsProofBehind by g row None whole = whole ≡ None
IsProofBehind by g row (Some rest) None = ⊥
IsProofBehind by g row (Some rest) (Some whole) = IsCutBefore by g row rest.value whole.value

-- what is seen without a cut, by what is seen with it
abbrev pub IsSeenBehind : List (ℕ × ℕ) → ℤ → Affine → Seen → Seen → Type 0
IsSeenBehind by g row (Point point) whole = whole ≡ Point point
IsSeenBehind by g row Nothing whole = whole ≡ Nothing
IsSeenBehind by g row (Empty rest) (Point point) = ⊥
IsSeenBehind by g row (Empty rest) Nothing = ⊥
IsSeenBehind by g row (Empty rest) (Empty whole) = IsCutBefore by g row rest.value whole.value
