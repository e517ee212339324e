-- Systems with the rows of a box, and what elimination says of them.
use Rattle.std.specs.Prelude.{◌≡◌, ◌⊎◌, ℕ, suc, ◌+◌, ◌-◌, List, [], ◌∷◌, ◌++◌, length, replicate, map, ℤ, pos, neg_ℤ}
use Rattle.affc_rows.specs.Forms.{Affine}
use Rattle.affc_system.specs.Systems.{Rows}
use Rattle.affc_farkas.specs.Rational.{RationalPoint}
use Rattle.affc_farkas.specs.Eliminations.{IsElimination}
use Rattle.affc_farkas.specs.declared.pair.Pair.{Pair}
use Rattle.affc_farkas.specs.declared.proof.Proof.{Proof, Leaf, Cut', Split'}
use Rattle.affc_eliminate.specs.project.Projections.{IsTooWide}

-- the coefficients of column j alone, with n columns after it
abbrev pub unit : ℕ → ℕ → List ℤ
unit j n = replicate j (pos 0) ++ pos 1 ∷ replicate n (pos 0)

-- the rows of column j's range: x_j - low and high - x_j
abbrev pub range_rows : ℕ → ℕ → ℤ × ℤ → List Affine
range_rows columns j r =
    record { coefs = unit j (columns - (j + 1)); constant = neg_ℤ r.0 }
    ∷ record { coefs = map neg_ℤ (unit j (columns - (j + 1))); constant = r.1 } ∷ []

-- the rows of a box, column by column from column j on, low before high
abbrev pub box_rows : ℕ → ℕ → List (ℤ × ℤ) → List Affine
box_rows columns j [] = []
box_rows columns j (r ∷ rs) = range_rows columns j r ++ box_rows columns (suc j) rs

-- the system with the rows of the box after its own
abbrev pub with_box : Rows → List (ℤ × ℤ) → Rows
with_box system ranges = record system { rows = system.rows ++ box_rows system.columns 0 ranges }

-- the form of each split has the constant 0
abbrev pub SplitsAtZero : Proof → Type 0
SplitsAtZero (Leaf by) = Unit {0}
SplitsAtZero (Cut' by g row p rest) = SplitsAtZero rest
SplitsAtZero (Split' form at p low q high) = (form.constant ≡ pos 0) × SplitsAtZero low × SplitsAtZero high

-- the proof is a leaf
abbrev pub IsLeafProof : Proof → Type 0
IsLeafProof (Leaf by) = Unit {0}
IsLeafProof (Cut' by g row p rest) = ⊥
IsLeafProof (Split' form at p low q high) = ⊥

-- a rational point meets the rows, or some elimination of them reaches a limit (it has 4,096 pairs, or the row of its next pair is too
-- wide), though another may refute them
abbrev pub IsHard : Rows → Type 0
IsHard system = RationalPoint system.columns system.rows
    ⊎ ((made : List Pair) × (IsElimination system.columns system.rows made × (length made ≡ 4096)))
    ⊎ ((made : List Pair) × ((next : Pair) × IsTooWide system.columns system.rows made next))
