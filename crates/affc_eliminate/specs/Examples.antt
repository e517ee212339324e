-- What the definitions give at small rows. Each value was found by hand from the rules.
use Rattle.std.specs.Prelude.{◌≡◌, ◌↔◌, ℕ, ◌^◌, Bool, IsTrue, List, [], ◌∷◌, length, ℤ, pos, negsuc, ◌≤ℤ◌}
use Rattle.affc_farkas.specs.declared.pair.Pair.{Pair}
use Rattle.affc_rows.specs.Forms.{Affine}
use Rattle.affc_eliminate.specs.Points.{HoldAt, Extends, IsTrivial}
use Rattle.affc_rows.specs.Vocabulary.{opposite}
use Rattle.affc_eliminate.specs.Screens.{HasSameSlope}
use Rattle.affc_eliminate.specs.Mixtures.{AreSumsOf, weight_of, IsMixture, IsWide}
use Rattle.affc_eliminate.specs.Steps.{AreNumbered, AreScreened, HasOpposite, AreReady, AddEach, AreEliminated}
use Rattle.affc_eliminate.specs.declared.kept.Kept.{Kept}

-- a x + b y + c
abbrev pub plane : ℤ → ℤ → ℤ → Affine
plane a b c = record { coefs = a ∷ b ∷ []; constant = c }

-- ---- x - y and its opposite, x - 2 and 9 - x

abbrev pub given : List Affine
given = plane (pos 1) (negsuc 0) (pos 0) ∷ plane (negsuc 0) (pos 1) (pos 0) ∷ plane (pos 1) (pos 0) (negsuc 1) ∷ plane (negsuc 0) (pos 0) (pos 9) ∷ []

-- y - 2 and 9 - y
abbrev pub without_x : List Affine
without_x = plane (pos 0) (pos 1) (negsuc 1) ∷ plane (pos 0) (negsuc 0) (pos 9) ∷ []

-- without x they say of y what two rows say
abbrev pub TwoRowsAreLeft : Type 0
TwoRowsAreLeft = (x : List ℤ) (d : ℤ) → length x ≡ 2 → pos 1 ≤ℤ d → HoldAt x d without_x ↔ Extends 0 x d given

-- y = 5/2 extends (to x = 5/2), and y = 10 doesn't
abbrev pub FiveHalvesExtend : Type 0
FiveHalvesExtend = Extends 0 (pos 0 ∷ pos 5 ∷ []) (pos 2) given

abbrev pub TenDoesNotExtend : Type 0
TenDoesNotExtend = Extends 0 (pos 0 ∷ pos 10 ∷ []) (pos 1) given → ⊥

-- ---- Rows that say nothing, and rows of one slope

-- 0 and 7, but neither -1 nor y
abbrev pub TrivialRows : Type 0
TrivialRows =
    IsTrivial (plane (pos 0) (pos 0) (pos 0)) × IsTrivial (plane (pos 0) (pos 0) (pos 7))
    × (IsTrivial (plane (pos 0) (pos 0) (negsuc 0)) → ⊥) × (IsTrivial (plane (pos 0) (pos 1) (pos 0)) → ⊥)

-- x - 3 beside x - 2 and itself, but not the other way round, nor beside 2 x - 6
abbrev pub SameSlopes : Type 0
SameSlopes =
    HasSameSlope (plane (pos 1) (pos 0) (negsuc 2)) (plane (pos 1) (pos 0) (negsuc 1))
    × HasSameSlope (plane (pos 1) (pos 0) (negsuc 2)) (plane (pos 1) (pos 0) (negsuc 2))
    × (HasSameSlope (plane (pos 1) (pos 0) (negsuc 1)) (plane (pos 1) (pos 0) (negsuc 2)) → ⊥)
    × (HasSameSlope (plane (pos 1) (pos 0) (negsuc 2)) (plane (pos 2) (pos 0) (negsuc 5)) → ⊥)

abbrev pub OppositeOfRow : Type 0
OppositeOfRow = opposite (plane (pos 1) (negsuc 0) (pos 9)) ≡ plane (negsuc 0) (pos 1) (negsuc 8)

-- ---- Rows with multipliers

abbrev pub kept : Affine → List (ℕ × ℕ) → ℕ → Kept
kept row from number = record { row = row; from = from; number = number }

-- the multipliers of rows 1 and 4, and that of row 2, which isn't named
abbrev pub Weights : Type 0
Weights = (weight_of ((1, 3) ∷ (4, 2) ∷ []) 1 ≡ 3) × (weight_of ((1, 3) ∷ (4, 2) ∷ []) 4 ≡ 2) × (weight_of ((1, 3) ∷ (4, 2) ∷ []) 2 ≡ 0)

-- y - 2 is (y - x) + (x - 2), but not (y - x) + 2 (x - 2); and no row has the number 1,024
abbrev pub SumsOfGiven : Type 0
SumsOfGiven =
    AreSumsOf 2 given (kept (plane (pos 0) (pos 1) (negsuc 1)) ((1, 1) ∷ (2, 1) ∷ []) 4 ∷ [])
    × (AreSumsOf 2 given (kept (plane (pos 0) (pos 1) (negsuc 1)) ((1, 1) ∷ (2, 2) ∷ []) 4 ∷ []) → ⊥)
    × (AreSumsOf 2 given (kept (plane (pos 0) (pos 0) (pos 0)) ((1024, 1) ∷ []) 4 ∷ []) → ⊥)

-- 2 (x - 1) and 4 - x give (x - 1) + (4 - x), but not twice that
abbrev pub twice : Kept
twice = kept (plane (pos 2) (pos 0) (negsuc 1)) ((0, 2) ∷ []) 0

abbrev pub four : Kept
four = kept (plane (negsuc 0) (pos 0) (pos 4)) ((1, 1) ∷ []) 1

abbrev pub InLeastTerms : Type 0
InLeastTerms = IsMixture 0 twice four (kept (plane (pos 0) (pos 0) (pos 3)) ((0, 1) ∷ (1, 1) ∷ []) 2) × (IsMixture 0 twice four (kept (plane (pos 0) (pos 0) (pos 6)) ((0, 2) ∷ (1, 2) ∷ []) 2) → ⊥)

-- a negative row can't be the first
abbrev pub SignsOfTwo : Type 0
SignsOfTwo = (new : Kept) → IsMixture 0 four twice new → ⊥

-- twice 2^53 is too great a multiplier, and so is three times 2^126, though it is 1 after the division; a constant of 2^127 is too great an entry; small rows are narrow
abbrev pub steep : Kept
steep = kept (plane (negsuc 1) (pos 0) (pos 1)) ((1, 1) ∷ []) 1

abbrev pub WideRows : Type 0
WideRows =
    IsWide 0 (kept (plane (pos 1) (pos 0) (pos 0)) ((0, 2 ^ 53) ∷ []) 0) steep
    × IsWide 0 (kept (plane (pos 1) (pos 0) (pos 0)) ((0, 2 ^ 126) ∷ []) 0) (kept (plane (negsuc 1) (pos 0) (pos 1)) ((0, 2 ^ 126) ∷ []) 1)
    × IsWide 0 (kept (plane (pos 1) (pos 0) (pos (2 ^ 126))) ((0, 1) ∷ []) 0) steep
    × (IsWide 0 (kept (plane (pos 1) (pos 0) (pos 0)) ((0, 1) ∷ []) 0) four → ⊥)

-- ---- A step

-- the given rows, each as the sum of itself alone
abbrev pub first_rows : List Kept
first_rows =
    kept (plane (pos 1) (negsuc 0) (pos 0)) ((0, 1) ∷ []) 0 ∷ kept (plane (negsuc 0) (pos 1) (pos 0)) ((1, 1) ∷ []) 1
    ∷ kept (plane (pos 1) (pos 0) (negsuc 1)) ((2, 1) ∷ []) 2 ∷ kept (plane (negsuc 0) (pos 0) (pos 9)) ((3, 1) ∷ []) 3 ∷ []

abbrev pub pair : ℕ → ℕ → Pair
pair first second = record { first = first; second = second; column = 0 }

-- what the test `same_slope` answers
abbrev pub SlopeAnswers : Affine → Affine → Bool → Type 0
SlopeAnswers f g answer = IsTrue answer ↔ HasSameSlope f g

-- y - 2 and 9 - y, as rows 4 and 5
abbrev pub last_rows : List Kept
last_rows = kept (plane (pos 0) (pos 1) (negsuc 1)) ((1, 1) ∷ (2, 1) ∷ []) 4 ∷ kept (plane (pos 0) (negsuc 0) (pos 9)) ((0, 1) ∷ (3, 1) ∷ []) 5 ∷ []

abbrev pub last_pairs : List Pair
last_pairs = pair 2 1 ∷ pair 0 3 ∷ []

-- x - y, y - x, x - 2 and 9 - x may be asked, and x is eliminated from them by two pairs
abbrev pub XIsEliminated : Type 0
XIsEliminated = AreReady first_rows 0 4 × AreEliminated SlopeAnswers first_rows 0 4 last_rows last_pairs

-- ... but not with other numbers, with one row less, or with one of the rows that have an x
abbrev pub NotOtherwise : Type 0
NotOtherwise =
    (AreEliminated SlopeAnswers first_rows 0 6 last_rows last_pairs → ⊥)
    × ((made : List Pair) → AreEliminated SlopeAnswers first_rows 0 4 (kept (plane (pos 0) (pos 1) (negsuc 1)) ((1, 1) ∷ (2, 1) ∷ []) 4 ∷ []) made → ⊥)
    × ((made : List Pair) → AreEliminated SlopeAnswers first_rows 0 4 first_rows made → ⊥)

-- no pair is made twice
abbrev pub NoPairTwice : Type 0
NoPairTwice = (added : List Kept) → AddEach first_rows 0 4 (pair 2 1 ∷ pair 2 1 ∷ []) added → ⊥

-- two rows of one number; rows of one slope, in both orders; x - y has its opposite, and x - 2 has none
abbrev pub Places : Type 0
Places =
    AreNumbered first_rows × (AreNumbered (kept (plane (pos 1) (pos 0) (pos 0)) [] 7 ∷ kept (plane (pos 0) (pos 1) (pos 0)) [] 7 ∷ []) → ⊥)
    × AreScreened SlopeAnswers last_rows
    × (AreScreened SlopeAnswers (kept (plane (pos 1) (pos 0) (negsuc 2)) [] 0 ∷ kept (plane (pos 1) (pos 0) (negsuc 1)) [] 1 ∷ []) → ⊥)
    × (AreScreened SlopeAnswers (kept (plane (pos 1) (pos 0) (negsuc 1)) [] 0 ∷ kept (plane (pos 1) (pos 0) (negsuc 2)) [] 1 ∷ []) → ⊥)
    × HasOpposite 0 given × (HasOpposite 0 (plane (pos 1) (pos 0) (negsuc 1) ∷ plane (negsuc 0) (pos 0) (pos 9) ∷ []) → ⊥)
    × (HasOpposite 1 (plane (pos 1) (pos 0) (negsuc 1) ∷ plane (negsuc 0) (pos 0) (pos 2) ∷ []) → ⊥)
