-- Valid proofs that rows over the same columns are at least 0 together at no integer point.
use Rattle.std.specs.Prelude.{◌≡◌, ℕ, ◌<◌, List, [], ◌∷◌, ◌++◌, length, map, ℤ, pos, ◌+ℤ◌, ◌-ℤ◌, ◌*ℤ◌, ◌≤ℤ◌, ◌<ℤ◌, neg_ℤ}
use Rattle.std.specs.List.{All}
use Rattle.affc_rows.specs.Forms.{Affine}
use Rattle.affc_system.specs.Systems.{Rows, IsRow}
use Rattle.affc_farkas.specs.Multiples.{multiple_sum, entry_of, AreMultipliers}
use Rattle.affc_farkas.specs.declared.proof.Proof.{Proof, Leaf, Cut', Split'}

-- the sum of these multiples is a constant below 0 (Farkas' lemma)
pub record IsLeaf (columns : ℕ) (rows : List Affine) (by : List (ℕ × ℕ)) : Type 0 where
  pub multipliers : AreMultipliers by
  pub there : All (λ p. p.0 < length rows) by
  pub cancels : (j : ℕ) → j < columns → entry_of (multiple_sum columns rows by) j ≡ pos 0
  pub negative : (multiple_sum columns rows by).constant <ℤ pos 0

-- the row is the sum of these multiples divided by g, with the constant rounded down (a Chvatal-Gomory cut)
pub record IsCut (columns : ℕ) (rows : List Affine) (by : List (ℕ × ℕ)) (g : ℤ) (row : Affine) : Type 0 where
  pub multipliers : AreMultipliers by
  pub there : All (λ p. p.0 < length rows) by
  pub divisor : pos 1 ≤ℤ g
  pub row_fits : IsRow columns row
  pub quotients : (j : ℕ) → j < columns → entry_of (multiple_sum columns rows by) j ≡ g *ℤ entry_of row j
  pub floor_low : (g *ℤ row.constant) ≤ℤ (multiple_sum columns rows by).constant
  pub floor_high : (multiple_sum columns rows by).constant <ℤ ((g *ℤ row.constant) +ℤ g)

-- at - form
abbrev pub low_row : Affine → ℤ → Affine
low_row form at = record { coefs = map neg_ℤ form.coefs; constant = at -ℤ form.constant }

-- form - at - 1
abbrev pub high_row : Affine → ℤ → Affine
high_row form at = record { coefs = form.coefs; constant = (form.constant -ℤ at) -ℤ pos 1 }

-- a proof is valid below rows: a leaf refutes them; a cut adds its row, and a split on each side a row of its own, which take the
-- next numbers and keep the limits of a system's rows
abbrev pub IsValid : ℕ → Proof → List Affine → Type 0
IsValid columns (Leaf by) rows = IsLeaf columns rows by
IsValid columns (Cut' by g row p rest) rows = IsCut columns rows by g row × IsValid columns rest (rows ++ row ∷ [])
IsValid columns (Split' form at p low q high) rows =
    IsRow columns (low_row form at) × IsRow columns (high_row form at)
    × IsValid columns low (rows ++ low_row form at ∷ []) × IsValid columns high (rows ++ high_row form at ∷ [])

-- a valid proof for a system
abbrev pub ValidProof : Rows → Proof → Type 0
ValidProof system proof = IsValid system.columns proof system.rows
