use Rattle.std.proofs.Common.{ℕ, ◌<◌, ◌++◌, ◌∷◌, [], get_or}
use Rattle.std.specs.Prelude.{remove}
use Rattle.affc_rows.specs.Forms.{Affine}
use Rattle.affc_farkas.specs.Rational.{RationalPoint}
use Rattle.affc_loopends.specs.Whys.{below_zero}
use Rattle.affc_loopends.proofs.ends.first_implied.Given as goal

abbrev pub invariant-loop-place : goal.invariant-loop-place
invariant-loop-place l = (i : ℕ) (d : Affine) → i < l.place → RationalPoint l.columns (remove l.rows i ++ below_zero (get_or l.rows i d) ∷ [])
