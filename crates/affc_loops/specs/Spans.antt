-- Over which ranges forms go.
use Rattle.std.specs.Prelude.{ℤ, false, true, List, [], ◌∷◌}
use Rattle.std.specs.Int.{int_max, int_min}
use Rattle.affc_rows.specs.Forms.{Affine, value}
use Rattle.affc_system.specs.Boxes.{corner}

-- from the least to the greatest value of a form over a box
abbrev pub span : List (ℤ × ℤ) → Affine → ℤ × ℤ
span box f = (value f (corner false f.coefs box), value f (corner true f.coefs box))

-- the smallest range round both
abbrev pub hull : ℤ × ℤ → ℤ × ℤ → ℤ × ℤ
hull r s = (int_min r.0 s.0, int_max r.1 s.1)

abbrev pub hulls : List (ℤ × ℤ) → List (ℤ × ℤ) → List (ℤ × ℤ)
hulls (r ∷ rs) (s ∷ ss) = hull r s ∷ hulls rs ss
hulls _ _ = []
