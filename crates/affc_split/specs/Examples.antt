-- What the definitions give at small boxes. Each value was found by hand from the rules.
use Rattle.std.specs.Prelude.{◌≡◌, ℕ, List, [], ◌∷◌, ℤ, pos, Some, None, Box}
use Rattle.std.specs.declared.alloc.Global.{Global}
use Rattle.std.specs.declared.vec.Vec.{Vec}
use Rattle.affc_farkas.specs.declared.proof.Proof.{Proof, Leaf, Cut', Split'}
use Rattle.affc_split.specs.declared.search.Answer.TheVariants.{Empty, Point}
use Rattle.affc_split.specs.Budgets.{Account, Within, IsUnit, IsLater, IsPartOf}
use Rattle.affc_split.specs.Openings.{nodes, IsPart, AreDistinct, IsUpTo, AreNeeded, Opened}

-- ---- Boxes of one column

abbrev pub range : ℤ → ℤ → List (ℤ × ℤ)
range low high = (low, high) ∷ []

-- 1 to 2 is a part of 0 to 4, and 0 to 5 isn't
abbrev pub PartsLieWithin : Type 0
PartsLieWithin = IsPart (range (pos 1) (pos 2)) (range (pos 0) (pos 4)) × (IsPart (range (pos 0) (pos 5)) (range (pos 0) (pos 4)) → ⊥)

abbrev pub NoBoxTwice : Type 0
NoBoxTwice = AreDistinct (range (pos 0) (pos 1) ∷ range (pos 2) (pos 3) ∷ range (pos 0) (pos 1) ∷ []) → ⊥

-- the last two boxes the same
abbrev pub NoBoxTwiceInTheRest : Type 0
NoBoxTwiceInTheRest = AreDistinct (range (pos 2) (pos 3) ∷ range (pos 0) (pos 1) ∷ range (pos 0) (pos 1) ∷ []) → ⊥

-- 3 is behind 0 to 2 and in 3 to 9, but 4 to 5 is behind it
abbrev pub NoBoxBehindThePoint : Type 0
NoBoxBehindThePoint = IsUpTo (pos 3 ∷ []) (range (pos 0) (pos 2)) × IsUpTo (pos 3 ∷ []) (range (pos 3) (pos 9)) × (IsUpTo (pos 3 ∷ []) (range (pos 4) (pos 5)) → ⊥)

-- ---- Proofs, and the boxes beside them

-- a split with a leaf on its low side, and a cut and a leaf on its high side (the three boxes hold the proofs in it)
abbrev pub split_and_cut : Box (Unit {0}) Global → Box (Unit {0}) Global → Box (Unit {0}) Global → Proof
split_and_cut p q r = Split' (record { coefs = pos 1 ∷ []; constant = pos 0 }) (pos 2) p (Leaf []) q (Cut' [] (pos 2) (record { coefs = pos 1 ∷ []; constant = pos 0 }) r (Leaf []))

abbrev pub EachNodeIsCounted : Type 0
EachNodeIsCounted = (p q r : Box (Unit {0}) Global) → nodes (split_and_cut p q r) ≡ 4

-- two boxes beside a leaf
abbrev pub NoMoreBoxesThanNodes : Type 0
NoMoreBoxesThanNodes = AreNeeded (Empty (Leaf [])) (range (pos 0) (pos 4) ∷ range (pos 0) (pos 2) ∷ []) → ⊥

-- beside the point 3 a box behind it
abbrev pub NoBoxBehindTheAnswer : Type 0
NoBoxBehindTheAnswer = (v : Vec ℤ Global) → v.items ≡ pos 3 ∷ [] → AreNeeded (Point v) (range (pos 0) (pos 9) ∷ range (pos 4) (pos 5) ∷ []) → ⊥

-- ---- Budgets of five units

abbrev pub five : ℕ → Account
five spent = record { limit = Some 5; spent = spent }

-- nothing is counted
abbrev pub no_limit : ℕ → Account
no_limit spent = record { limit = None; spent = spent }

-- all five may be spent, and not six
abbrev pub FiveOfFive : Type 0
FiveOfFive = Within (five 5) × (Within (five 6) → ⊥)

abbrev pub AUnitIsOne : Type 0
AUnitIsOne = (IsUnit (five 3) (five 3) → ⊥) × IsUnit (five 3) (five 4)

abbrev pub LaterIsNoLess : Type 0
LaterIsNoLess = IsLater (five 3) (five 2) → ⊥

abbrev pub TheLimitStays : Type 0
TheLimitStays = IsLater (five 3) (record { limit = Some 6; spent = 3 }) → ⊥

abbrev pub UncountedIsUnspent : Type 0
UncountedIsUnspent = IsLater (no_limit 3) (no_limit 4) → ⊥

-- three of five are spent: a part of one unit doesn't end at five, and one of three not at six; it doesn't end at once, and as much is spent
abbrev pub APartOfFive : Type 0
APartOfFive = (IsPartOf 1 (five 3) (five 3) → ⊥) × (IsPartOf 3 (record { limit = Some 6; spent = 3 }) (five 3) → ⊥)
    × (IsPartOf 1 (record { limit = Some 3; spent = 3 }) (five 3) → ⊥) × (IsPartOf 1 (record { limit = Some 4; spent = 2 }) (five 3) → ⊥)

-- two units are one too many beside a leaf, and none is one too few
abbrev pub ALeafCostsOneUnit : Type 0
ALeafCostsOneUnit = (whole : List (ℤ × ℤ)) → (Opened whole (five 0) (five 2) (Empty (Leaf [])) → ⊥) × (Opened whole (five 0) (five 0) (Empty (Leaf [])) → ⊥)
