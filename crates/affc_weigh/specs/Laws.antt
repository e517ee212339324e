-- What holds of stored costs.
use Rattle.std.specs.Prelude.{ℕ, ◌^◌, ◌≤◌, ◌↔◌, ℤ, List}
use Rattle.affc_basis.specs.declared.fold.Fold.{Fold}
use Rattle.affc_basis.specs.Folds.{forms_of, AreGreatestValues, IsCost}
use Rattle.affc_weigh.specs.Costs.{AreModuli, AreAtMost, NeverFalls, Gives, IsLeastPower, least_power, words_cost, sum_cost, powers_cost}

-- the cost of a fold is what the stored cost answers to its moduli's greatest values
pub record IsStoredCost (Answers : List ℕ → ℕ → Type 0) (InContext : List ℤ → Type 0) (fold : Fold) (cost : ℕ) : Type 0 where
  pub values : List ℕ
  pub are_greatest : AreGreatestValues InContext (forms_of fold.moduli) values
  pub answered : Answers values cost

-- Where no modulus of a fold has a greater greatest value than the other fold's at its place, it costs no more.
abbrev pub LessCostsNoMore : (Answers : List ℕ → ℕ → Type 0) (InContext : List ℤ → Type 0) → Type 0
LessCostsNoMore Answers InContext = (fold other : Fold) (small great : List ℕ) (less more : ℕ)
    → NeverFalls Answers
    → AreGreatestValues InContext (forms_of fold.moduli) small → AreGreatestValues InContext (forms_of other.moduli) great
    → AreModuli small → AreModuli great → AreAtMost small great
    → IsStoredCost Answers InContext fold less → IsStoredCost Answers InContext other more → less ≤ more

-- What stores a function costs what the function gives.
abbrev pub GivenCosts : (InContext : List ℤ → Type 0) → Type 0
GivenCosts InContext = (stored : List ℕ → ℕ) (fold : Fold) (cost : ℕ) → IsStoredCost (Gives stored) InContext fold cost ↔ IsCost stored InContext fold cost

-- The costs by name never fall.
pub record NamedNeverFall : Type 0 where
  pub words : NeverFalls (Gives words_cost)
  pub sums : NeverFalls (Gives sum_cost)
  pub powers : NeverFalls (Gives powers_cost)

-- The power of two that is found is the least that isn't below the number.
abbrev pub LeastPowerIsLeast : Type 0
LeastPowerIsLeast = (n : ℕ) → n ≤ 2 ^ 64 → IsLeastPower n (least_power n)
