-- What the definitions give at small lists. Each value was found by hand from the rules.
use Rattle.std.specs.Prelude.{◌≡◌, ℕ, ◌+◌, ◌^◌, ℤ, pos, negsuc, true, List, [], ◌∷◌, Option, Some, None, refl}
use Rattle.affc_rows.specs.Forms.{Affine}
use Rattle.affc_system.specs.declared.pairs.PairSystem.{PairSystem}
use Rattle.affc_ast.specs.declared.tree.ArrayId.{ArrayId}
use Rattle.affc_trace.specs.Dataflow.{LivePair}
use Rattle.affc_trace.specs.Examples.{blur, together, two}
use Rattle.affc_split.specs.Budgets.{Account}
use Rattle.affc_basis.specs.declared.basis.Basis.{Basis}
use Rattle.affc_basis.specs.declared.fold.Fold.{Fold}
use Rattle.affc_basis.specs.declared.fold.Modulus.{Modulus}
use Rattle.affc_basis.specs.Examples.{whole, onto, fold_at, marked, two_rows, OnePair}
use Rattle.affc_basis.specs.Listed.{shape_of}
use Rattle.affc_basis.specs.Turned.{turned}
use Rattle.affc_weigh.specs.declared.choice.Choice.{Choice}
use Rattle.affc_weigh.specs.declared.choice.Price.{Price}
use Rattle.affc_weigh.specs.declared.ratings.Rated.{Rated}
use Rattle.affc_weigh.specs.Costs.{Gives, words_cost}
use Rattle.affc_folds.specs.Folding.{given_for, HasTrueMarks, IsSpent, HasBound, IsLowest, IsLeftWhole, AreFoldsUnder}
use Rattle.affc_folds.specs.Systems.{IsCopy, IsVoid, AreKept, Adds}
use Rattle.affc_folds.specs.Tries.{IsEither}

-- ---- Bases

abbrev pub given_to : ℕ → Basis → ArrayId × Basis
given_to array basis = (record { 0 = array }, basis)

abbrev given : List (ArrayId × Basis)
given = given_to 3 whole ∷ given_to 3 turned ∷ given_to 2 turned ∷ []

-- array 3 has the first that is given for it, and array 2 its own, where they have one dimension; array 1 has none
abbrev pub BasesOfArrays : Type 0
BasesOfArrays =
    (given_for given 3 1 ≡ Some (shape_of whole))
    × (given_for given 2 1 ≡ Some (shape_of turned))
    × (given_for given 1 1 ≡ None)
    × (given_for given 3 2 ≡ None)

-- ---- Budgets

abbrev pub three_of : ℕ → Account
three_of spent = record { limit = Some 3; spent = spent }

-- three units of three are all; two aren't, and without a limit nothing is spent up
abbrev pub SpentOrNot : Type 0
SpentOrNot = IsSpent (three_of 3) × (IsSpent (three_of 2) → ⊥) × (IsSpent (record { limit = None; spent = 0 }) → ⊥)

-- ---- Folds

abbrev pub by : Modulus → Fold
by m = record { basis = whole; moduli = m ∷ []; one_each = refl }

-- the fold onto so many elements, which t[0] and t[2] show to be least
abbrev pub least : ℕ → Fold
least n = by (marked n (Some (pos 0 ∷ [], pos 2 ∷ [])))

-- each mark has to be true: of the one pair, which lies apart along the second row alone, 1 is the least for the first row, but not
-- for the second
abbrev pub SecondMarkIsFalse : Type 0
SecondMarkIsFalse = (fold : Fold) → fold.basis.rows ≡ two_rows → fold.moduli ≡ marked 1 None ∷ marked 1 None ∷ [] → HasTrueMarks (λ p. p ≡ two) OnePair fold → ⊥

-- t of the blur, the third array, is left whole by no folds and by those of other arrays, and not by a fold of it
abbrev pub WholeOrNot : Type 0
WholeOrNot =
    IsLeftWhole blur []
    × IsLeftWhole blur (fold_at 0 (onto 3) ∷ fold_at 3 (onto 3) ∷ [])
    × (IsLeftWhole blur (fold_at 2 (onto 3) ∷ []) → ⊥)
    × HasBound (onto 3)
    × (HasBound (least 3) → ⊥)

-- ---- Choices

abbrev pub price : List ℕ → ℕ → Option Price
price values cost = Some (record { values = values; cost = cost })

-- 5 is the least of 7, 5, an unknown price and 5, and the first of them is number 1
abbrev pub LowestPrices : Type 0
LowestPrices =
    let prices = price [] 7 ∷ price [] 5 ∷ None ∷ price [] 5 ∷ [] in
    IsLowest (least 3) 1 5 prices
    × (IsLowest (least 3) 0 7 prices → ⊥)
    × (IsLowest (least 3) 3 5 prices → ⊥)
    -- the price of the fold itself is missing only where it has a bound
    × (IsLowest (least 3) 2 5 prices → ⊥)
    × IsLowest (onto 3) 2 4 prices

abbrev pub rated : (elements cost : ℕ) → Rated
rated elements cost = record { fold = least elements; price = record { values = elements ∷ []; cost = cost }; marked = true }

abbrev pub costs_three : Option Price → Choice
costs_three price = record { cost = 3; number = 0; prices = price ∷ [] }

-- The first fold may stay. Another is taken only where it is the one that was found, costs as much, and the price of the basis that
-- is chosen isn't missing; that of another may be.
abbrev pub FirstOrFound : Type 0
FirstOrFound =
    let told = costs_three (price (3 ∷ []) 3) in
    IsEither (onto 3) told (Some (rated 3 3)) (onto 3)
    × IsEither (onto 3) told None (onto 3)
    × IsEither (onto 3) told (Some (rated 3 3)) (least 3)
    × IsEither (onto 3) (record { cost = 3; number = 1; prices = None ∷ price (3 ∷ []) 3 ∷ [] }) (Some (rated 3 3)) (least 3)
    × (IsEither (onto 3) told (Some (rated 3 3)) (least 4) → ⊥)
    × (IsEither (onto 3) told None (least 3) → ⊥)
    × (IsEither (onto 3) told (Some (rated 3 4)) (least 3) → ⊥)
    × (IsEither (onto 3) told (Some (rated 3 2)) (least 3) → ⊥)
    × (IsEither (onto 3) (costs_three None) (Some (rated 3 3)) (least 3) → ⊥)

-- ---- Systems

-- x + n is at least 0, and x is from 0 to 9
pub record IsFrom (n : ℤ) (s : PairSystem) : Type 0 where
  pub rows : s.system ≡ record { columns = 1; rows = record { coefs = pos 1 ∷ []; constant = n } ∷ [] }
  pub ranges : s.ranges ≡ (pos 0, pos 9) ∷ []

-- x is at least 3
abbrev pub IsFromThree : PairSystem → Type 0
IsFromThree = IsFrom (negsuc 2)

-- x is at least 10, which is no number of the box
abbrev pub IsFromTen : PairSystem → Type 0
IsFromTen = IsFrom (negsuc 9)

abbrev pub VoidInTheBox : Type 0
VoidInTheBox = (s : PairSystem) → (IsFromTen s → IsVoid s) × (IsFromThree s → IsVoid s → ⊥)

-- a copy has the rows, the box and both elements
abbrev pub CopiesInAll : Type 0
CopiesInAll = (s t : PairSystem)
    → IsCopy s s
    × (IsFromThree s → IsFromTen t → IsCopy s t → ⊥)
    × (IsFromThree s → t.ranges ≡ [] → IsCopy s t → ⊥)
    × ((f : Affine) → s.x.items ≡ f ∷ [] → t.x.items ≡ [] → IsCopy s t → ⊥)
    × ((f : Affine) → s.y.items ≡ f ∷ [] → t.y.items ≡ [] → IsCopy s t → ⊥)

-- what has no point may be left out or kept; what has one may not be left out, and nothing else is kept
abbrev pub KeptOrNot : Type 0
KeptOrNot = (three ten : PairSystem) → IsFromThree three → IsFromTen ten
    → AreKept (ten ∷ three ∷ []) (three ∷ [])
    × AreKept (ten ∷ three ∷ []) (ten ∷ three ∷ [])
    × (AreKept (ten ∷ three ∷ []) (ten ∷ []) → ⊥)
    × (AreKept (ten ∷ []) (three ∷ []) → ⊥)

-- one more is added, or it is passed over where it has no point
abbrev pub AddedOrNot : Type 0
AddedOrNot = (three ten : PairSystem) → IsFromThree three → IsFromTen ten
    → Adds (three ∷ []) [] (three ∷ [])
    × Adds (ten ∷ []) (three ∷ []) (three ∷ [])
    × (Adds (three ∷ []) (ten ∷ []) (ten ∷ []) → ⊥)
    × (Adds (ten ∷ []) (three ∷ []) [] → ⊥)
    × (Adds (ten ∷ []) [] (three ∷ []) → ⊥)

abbrev pub AreOfTheBlur : List (ArrayId × Basis) → Account → List (ArrayId × Fold) → List (ArrayId × Choice) → Type 0
AreOfTheBlur bases budget folds choices = AreFoldsUnder (Gives words_cost) blur (LivePair blur together) bases budget folds choices

abbrev pub t_has : Fold → List (ArrayId × Fold)
t_has fold = fold_at 2 fold ∷ []

-- it costs so much, and the one listed basis comes to this
abbrev pub t_costs : ℕ → Option Price → List (ArrayId × Choice)
t_costs cost price = (record { 0 = 2 }, record { cost = cost; number = 0; prices = price ∷ [] }) ∷ []

-- Three elements are the least for t and cost 3, where two units of three are spent; with all three spent they may be a bound, or t
-- whole.
abbrev pub FoldsOfBlur : Type 0
FoldsOfBlur =
    AreOfTheBlur [] (three_of 2) (t_has (least 3)) (t_costs 3 (price (3 ∷ []) 3))
    × AreOfTheBlur [] (three_of 3) (t_has (onto 3)) (t_costs 3 None)
    × AreOfTheBlur [] (three_of 3) [] []
    -- with a unit left they may not, nor may a price be missing
    × (AreOfTheBlur [] (three_of 2) (t_has (onto 3)) (t_costs 3 (price (3 ∷ []) 3)) → ⊥)
    × (AreOfTheBlur [] (three_of 2) [] [] → ⊥)
    × (AreOfTheBlur [] (three_of 2) (t_has (least 3)) (t_costs 3 None) → ⊥)
    -- two are too few, and four not the least
    × (AreOfTheBlur [] (three_of 3) (t_has (onto 2)) (t_costs 2 None) → ⊥)
    × (AreOfTheBlur [] (three_of 2) (t_has (least 4)) (t_costs 4 (price (4 ∷ []) 4)) → ⊥)
    -- they cost 3, which is told of them
    × (AreOfTheBlur [] (three_of 2) (t_has (least 3)) (t_costs 4 (price (3 ∷ []) 3)) → ⊥)
    × (AreOfTheBlur [] (three_of 2) (t_has (least 3)) [] → ⊥)
    -- the basis that is given for t has to be taken; `out` is no temporary; and a modulus is within its limits
    × (AreOfTheBlur (given_to 2 turned ∷ []) (three_of 2) (t_has (least 3)) (t_costs 3 (price (3 ∷ []) 3)) → ⊥)
    × (AreOfTheBlur [] (three_of 3) (fold_at 1 (onto 3) ∷ []) (t_costs 3 None) → ⊥)
    × (AreOfTheBlur [] (three_of 3) (t_has (onto (2 ^ 55 + 1))) (t_costs (2 ^ 55 + 1) None) → ⊥)
