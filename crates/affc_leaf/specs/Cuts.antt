-- Rows divided by a common divisor of their coefficients.
use Rattle.std.specs.Prelude.{◌≡◌, ℕ, ◌<◌, List, length, map, ℤ, pos, ◌+ℤ◌, ◌*ℤ◌, ◌≤ℤ◌, ◌<ℤ◌}
use Rattle.affc_rows.specs.Forms.{Affine}
use Rattle.affc_system.specs.Systems.{Rows}
use Rattle.affc_farkas.specs.Multiples.{row_at}
use Rattle.affc_farkas.specs.declared.proof.Proof.{Proof, Leaf, Cut', Split'}

-- the cut is the row divided by g, with the constant rounded down
pub record IsDivided (row : Affine) (g : ℤ) (cut : Affine) : Type 0 where
  pub divisor : pos 1 ≤ℤ g
  pub quotients : map (λ q. g *ℤ q) cut.coefs ≡ row.coefs
  pub floor_low : (g *ℤ cut.constant) ≤ℤ row.constant
  pub floor_high : row.constant <ℤ ((g *ℤ cut.constant) +ℤ g)

-- the cut is this row of the system, so divided
pub record IsCutOf (system : Rows) (i : ℕ) (g : ℤ) (cut : Affine) : Type 0 where
  pub there : i < length system.rows
  pub divided : IsDivided (row_at system.columns system.rows i) g cut

-- the proof is this cut before the rest
abbrev pub IsCutBefore : List (ℕ × ℕ) → ℤ → Affine → Proof → Proof → Type 0
IsCutBefore by g row rest (Leaf m) = ⊥
IsCutBefore by g row rest (Cut' m h cut p after) = (m ≡ by) × (h ≡ g) × (cut ≡ row) × (after ≡ rest)
IsCutBefore by g row rest (Split' form at p low q high) = ⊥
