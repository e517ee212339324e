-- What the definitions give at small systems. Each value was found by hand from the rules.
use Rattle.std.specs.Prelude.{List, [], ◌∷◌, pos, negsuc}
use Rattle.affc_rows.specs.Forms.{Affine}
use Rattle.affc_farkas.specs.Examples.{pair, line, apart}
use Rattle.affc_farkas.specs.declared.pair.Pair.{Pair}
use Rattle.affc_eliminate.specs.Examples.{plane}
use Rattle.affc_eliminate.specs.project.Projections.{AreProjected, AreFrom}

-- ---- The triangle of y, 2 x - 2 y and 3 - x

abbrev pub triangle : List Affine
triangle = plane (pos 0) (pos 1) (pos 0) ∷ plane (pos 2) (negsuc 1) (pos 0) ∷ plane (negsuc 0) (pos 0) (pos 3) ∷ []

-- over x alone: 3 - x, and x, which is what 2 x comes to
abbrev pub TriangleOverX : Type 0
TriangleOverX = AreProjected 2 triangle 1 (pair 0 1 1 ∷ []) (line (negsuc 0) (pos 3) ∷ line (pos 1) (pos 0) ∷ [])

-- x alone is met by 4, which no point of the triangle has
abbrev pub OneRowIsTooFew : Type 0
OneRowIsTooFew = (made : List Pair) → AreProjected 2 triangle 1 made (line (pos 1) (pos 0) ∷ []) → ⊥

abbrev pub TwiceIsNotLeast : Type 0
TwiceIsNotLeast = (made : List Pair) → AreProjected 2 triangle 1 made (line (negsuc 0) (pos 3) ∷ line (pos 2) (pos 0) ∷ []) → ⊥

-- the pair cancels y, which isn't one of two columns that are kept
abbrev pub OnlyLaterColumns : Type 0
OnlyLaterColumns = AreFrom 1 (pair 0 1 1 ∷ []) × (AreFrom 2 (pair 0 1 1 ∷ []) → ⊥)

-- ---- No column kept, and all

-- x - 3 and 2 - x have no point: what is left is -1
abbrev pub NoPointLeavesMinusOne : Type 0
NoPointLeavesMinusOne = AreProjected 1 apart 0 (pair 0 1 0 ∷ []) (record { coefs = []; constant = negsuc 0 } ∷ [])

abbrev pub NoPointLeavesSomeRow : Type 0
NoPointLeavesSomeRow = (made : List Pair) → AreProjected 1 apart 0 made [] → ⊥

-- x and 5 - x have one: nothing is left
abbrev pub PointLeavesNoRow : Type 0
PointLeavesNoRow = AreProjected 1 (line (pos 1) (pos 0) ∷ line (negsuc 0) (pos 5) ∷ []) 0 [] []

-- 2 x - 4 over all columns is x - 2
abbrev pub AllColumnsAreKept : Type 0
AllColumnsAreKept = AreProjected 1 (line (pos 2) (negsuc 3) ∷ []) 1 [] (line (pos 1) (negsuc 1) ∷ [])
