-- What a proof says, without where boxes lie.
use Rattle.affc_farkas.specs.declared.proof.Proof.{Proof, Leaf, Cut', Split'}
use Rattle.affc_rows.specs.Forms.{Affine}
use Rattle.std.specs.Prelude.{ℕ, ℤ, ◌-ℤ◌, List}

-- the steps of a proof of emptiness: multiples that sum to a constant below 0; a cut; a split at a number
pub data Steps : Type 0 where
  Refuted : (by : List (ℕ × ℕ)) → Steps
  Cut : (by : List (ℕ × ℕ)) → (g : ℤ) → (row : Affine) → (rest : Steps) → Steps
  Split : (coefs : List ℤ) → (at : ℤ) → (low high : Steps) → Steps

-- A split of a form with a constant is that of its coefficients at so much less: both have the same two rows.
abbrev pub steps_of : Proof → Steps
steps_of (Leaf by) = Refuted by
steps_of (Cut' by g row p rest) = Cut by g row (steps_of rest)
steps_of (Split' form at p low q high) = Split form.coefs (at -ℤ form.constant) (steps_of low) (steps_of high)
