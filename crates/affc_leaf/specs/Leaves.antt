-- The multipliers of a leaf: rows, and the bounds that make their sum greatest.
use Rattle.std.specs.Prelude.{◌≡◌, ℕ, zero, suc, ◌<◌, List, [], ◌∷◌, ◌++◌, ℤ, pos, negsuc}
use Rattle.std.specs.List.{All}
use Rattle.affc_rows.specs.Forms.{Affine}
use Rattle.affc_farkas.specs.Multiples.{multiple_sum}
use Rattle.affc_farkas.specs.declared.proof.Proof.{Proof, Leaf, Cut', Split'}
use Rattle.affc_simplex.specs.declared.bounds.Bound.{Bound}

-- the bound that makes a product greatest, as often as the coefficient says
abbrev pub corner_row : ℤ → Bound → List (ℕ × ℕ)
corner_row (pos zero) b = []
corner_row (pos (suc n)) b = (b.high_row, suc n) ∷ []
corner_row (negsuc n) b = (b.low_row, suc n) ∷ []

abbrev pub corner_rows : List ℤ → List Bound → List (ℕ × ℕ)
corner_rows [] bs = []
corner_rows (c ∷ cs) [] = []
corner_rows (c ∷ cs) (b ∷ bs) = corner_row c b ++ corner_rows cs bs

-- the same rows as often, in another order
pub record SameSum (a b : List (ℕ × ℕ)) : Type 0 where
  pub sums : (columns : ℕ) (rows : List Affine) → multiple_sum columns rows a ≡ multiple_sum columns rows b
  pub forth : (n : ℕ) → All (λ p. p.0 < n) a → All (λ p. p.0 < n) b
  pub back : (n : ℕ) → All (λ p. p.0 < n) b → All (λ p. p.0 < n) a

-- the proof is a leaf, and P holds of its multipliers
abbrev pub IsLeafBy : (List (ℕ × ℕ) → Type 0) → Proof → Type 0
IsLeafBy P (Leaf by) = P by
IsLeafBy P (Cut' by g row p rest) = ⊥
IsLeafBy P (Split' form at p low q high) = ⊥
