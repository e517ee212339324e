-- The lexicographic order of points.
use Rattle.std.specs.Prelude.{◌≡◌, List, [], ◌∷◌, ℤ, ◌<ℤ◌, ◌⊎◌}

-- the first point is at most the second in lexicographic order
abbrev pub LexLe : List ℤ → List ℤ → Type 0
LexLe [] zs = Unit {0}
LexLe (x ∷ xs) [] = ⊥
LexLe (x ∷ xs) (z ∷ zs) = (x <ℤ z) ⊎ ((x ≡ z) × LexLe xs zs)
