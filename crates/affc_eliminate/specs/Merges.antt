-- Lists of multipliers that are merged.
use Rattle.std.specs.Prelude.{◌≡◌, ◌⊎◌, ℕ, ◌+◌, ◌*◌, ◌^◌, ◌<◌, ◌≤◌, List, ◌∷◌, length, drop}
use Rattle.std.specs.List.{All}
use Prim.Native.Nat.{◌∣◌}
use Rattle.affc_farkas.specs.Multiples.{IsRising}
use Rattle.affc_eliminate.specs.Mixtures.{weight_of, mixed_weight, IsGreatest}
use Rattle.affc_eliminate.specs.declared.weights.Term.{Term}
use Rattle.affc_eliminate.specs.declared.weights.Least.{Least}

-- row numbers below 1,024 in increasing order, with multipliers from 1 on
pub record AreTimes (by : List (ℕ × ℕ)) : Type 0 where
  pub rising : IsRising by
  pub positive : All (λ p. 1 ≤ p.1) by
  pub named : All (λ p. p.0 < 1024) by

-- the list has this number and multiplier at place i, and the next place is j; or the multiplier is 0, and the numbers from i on are above this one
abbrev pub IsTaken : ℕ → ℕ → List (ℕ × ℕ) → ℕ → ℕ → Type 0
IsTaken number times by i j =
    ((j ≡ i + 1) × (i < length by) × (drop i by ≡ (number, times) ∷ drop j by))
    ⊎ ((j ≡ i) × (times ≡ 0) × All (λ p. number < p.0) (drop i by))

-- the least number of what is left of two lists from these places on, with its multipliers, and the next places
pub record IsTerm (first : List (ℕ × ℕ)) (left : ℕ) (second : List (ℕ × ℕ)) (right : ℕ) (term : Term) : Type 0 where
  pub first_is : IsTaken term.number term.first first left term.left
  pub second_is : IsTaken term.number term.second second right term.right
  pub some : left + right < term.left + term.right

-- s times the first multipliers plus t times the second, below 2^127
pub record AreMerged (s : ℕ) (first : List (ℕ × ℕ)) (t : ℕ) (second sums : List (ℕ × ℕ)) : Type 0 where
  pub times : AreTimes sums
  pub small : All (λ p. p.1 < 2 ^ 127) sums
  pub weights : (i : ℕ) → weight_of sums i ≡ mixed_weight s first t second i

-- the greatest common divisor of the multipliers
pub record IsDivisor (divisor : ℕ) (by : List (ℕ × ℕ)) : Type 0 where
  pub divides : All (λ p. divisor ∣ p.1) by
  pub greatest : (k : ℕ) → All (λ p. k ∣ p.1) by → k ∣ divisor

-- multipliers in least terms
pub record AreLeast (s : ℕ) (first : List (ℕ × ℕ)) (t : ℕ) (second : List (ℕ × ℕ)) (least : Least) : Type 0 where
  pub positive : 1 ≤ least.divisor
  pub small : least.divisor < 2 ^ 127
  pub greatest : IsGreatest least.divisor (mixed_weight s first t second)
  pub weights : (i : ℕ) → least.divisor * weight_of least.from i ≡ mixed_weight s first t second i
  pub named : All (λ p. p.0 < 1024) least.from
