use Rattle.std.proofs.Common.{ℕ, ◌<◌, ℤ, pos, ◌≤ℤ◌}
use Rattle.std.specs.Prelude.{slice_index_or}
use Rattle.affc_rows.specs.Forms.{Affine}
use Rattle.affc_farkas.specs.Rational.{scaled_value}
use Rattle.affc_leaf.proofs.vertices.meet_at.Given as goal

abbrev pub invariant-loop-row : goal.invariant-loop-row
invariant-loop-row l = (k : ℕ) (d : Affine) → k < l.row-index → pos 0 ≤ℤ scaled_value (slice_index_or l.row-items k d) l.x l.d
