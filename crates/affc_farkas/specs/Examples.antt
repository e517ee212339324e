-- What the definitions give at small systems. Each value was found by hand from the rules.
use Rattle.std.specs.Prelude.{◌≡◌, ℕ, List, [], ◌∷◌, ℤ, pos, negsuc, Box}
use Rattle.std.specs.declared.alloc.Global.{Global}
use Rattle.affc_rows.specs.Forms.{Affine}
use Rattle.affc_farkas.specs.Eliminations.{IsElimination}
use Rattle.affc_farkas.specs.Depths.{depth, StandAtNode}
use Rattle.affc_farkas.specs.declared.pair.Pair.{Pair}
use Rattle.affc_farkas.specs.declared.proof.Proof.{Proof, Leaf, Cut', Split'}

-- two rows and the column that they cancel
abbrev pub pair : ℕ → ℕ → ℕ → Pair
pair first second column = record { first = first; second = second; column = column }

-- ---- The rows x - 3 and 2 - x

abbrev pub apart : List Affine
apart = record { coefs = pos 1 ∷ []; constant = negsuc 2 } ∷ record { coefs = negsuc 0 ∷ []; constant = pos 2 } ∷ []

-- their sum is -1
abbrev pub OnePairCancels : Type 0
OnePairCancels = IsElimination 1 apart (pair 0 1 0 ∷ [])

abbrev pub NoPairTwice : Type 0
NoPairTwice = IsElimination 1 apart (pair 0 1 0 ∷ pair 0 1 0 ∷ []) → ⊥

abbrev pub FirstIsPositive : Type 0
FirstIsPositive = IsElimination 1 apart (pair 1 0 0 ∷ []) → ⊥

-- ---- The rows x + y, y - x and -y - 1

abbrev pub above : List Affine
above =
    record { coefs = pos 1 ∷ pos 1 ∷ []; constant = pos 0 } ∷ record { coefs = negsuc 0 ∷ pos 1 ∷ []; constant = pos 0 }
    ∷ record { coefs = pos 0 ∷ negsuc 0 ∷ []; constant = negsuc 0 } ∷ []

-- row 3 is 2 y, and with row 2 twice it is -2
abbrev pub AddedRowsAreNext : Type 0
AddedRowsAreNext = IsElimination 2 above (pair 0 1 0 ∷ pair 3 2 1 ∷ [])

-- row 0 still has x, which was cancelled
abbrev pub CancelledStaysCancelled : Type 0
CancelledStaysCancelled = IsElimination 2 above (pair 0 1 0 ∷ pair 0 2 1 ∷ []) → ⊥

-- ---- A split of x at 2 whose high side is a cut

-- the row a x + b
abbrev pub line : ℤ → ℤ → Affine
line a b = record { coefs = a ∷ []; constant = b }

-- (the two boxes hold the sides, and the third what is behind the cut)
abbrev pub split_at_two : Box (Unit {0}) Global → Box (Unit {0}) Global → Box (Unit {0}) Global → Proof
split_at_two p q r = Split' (line (pos 1) (pos 0)) (pos 2) p (Leaf []) q (Cut' [] (pos 2) (line (pos 1) (negsuc 6)) r (Leaf []))

abbrev pub DepthIsOfTheDeepestWay : Type 0
DepthIsOfTheDeepestWay = (p q r : Box (Unit {0}) Global) → depth (split_at_two p q r) ≡ 2

-- x - 3 on the high side, and behind the cut x - 7 as well
abbrev pub CutStandsBehindItsSplit : Type 0
CutStandsBehindItsSplit = (p q r : Box (Unit {0}) Global) → StandAtNode [] (split_at_two p q r) (line (pos 1) (negsuc 2) ∷ line (pos 1) (negsuc 6) ∷ [])

-- 2 - x on the low side, where no cut is
abbrev pub NoCutStandsOnTheLowSide : Type 0
NoCutStandsOnTheLowSide = (p q r : Box (Unit {0}) Global) → StandAtNode [] (split_at_two p q r) (line (negsuc 0) (pos 2) ∷ line (pos 1) (negsuc 6) ∷ []) → ⊥
