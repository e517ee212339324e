-- Costs of lists of moduli: the order in which they never fall, and the three costs by name.
use Rattle.std.specs.Prelude.{◌≡◌, ℕ, zero, suc, ◌*◌, ◌^◌, ◌-◌, ◌≤◌, List, [], ◌∷◌, length, map, min, sum, if◌then◌else◌, nat_lt}
use Rattle.std.specs.List.{All, AllZip}
use Rattle.std.specs.Int.{IsPowerOfTwo}

-- four numbers at most, each from 1 to 2 ^ 60
pub record AreModuli (moduli : List ℕ) : Type 0 where
  pub few : length moduli ≤ 4
  pub within : All (λ m. (1 ≤ m) × (m ≤ 2 ^ 60)) moduli

-- as many numbers, and none of them greater than the other list's at its place
abbrev pub AreAtMost : List ℕ → List ℕ → Type 0
AreAtMost small great = AllZip (λ m n. m ≤ n) small great

-- Answers to lists of moduli never fall where no number falls. So each list has one answer at most.
abbrev pub NeverFalls : (Answers : List ℕ → ℕ → Type 0) → Type 0
NeverFalls Answers = (small great : List ℕ) (less more : ℕ) → AreModuli small → AreModuli great → AreAtMost small great
    → Answers small less → Answers great more → less ≤ more

-- all lists of moduli are taken
abbrev pub TakesModuli : (Takes : List ℕ → Type 0) → Type 0
TakesModuli Takes = (moduli : List ℕ) → AreModuli moduli → Takes moduli

-- what a function gives, as the one answer
abbrev pub Gives : (List ℕ → ℕ) → List ℕ → ℕ → Type 0
Gives cost moduli answer = answer ≡ cost moduli

-- ---- The costs by name

abbrev pub product : List ℕ → ℕ
product [] = 1
product (m ∷ ms) = m * product ms

-- products stop at the greatest number of 128 bits
abbrev pub stopped : ℕ → ℕ
stopped n = min n (2 ^ 128 - 1)

-- how many elements an array of these extents has
abbrev pub words_cost : List ℕ → ℕ
words_cost moduli = stopped (product moduli)

abbrev pub sum_cost : List ℕ → ℕ
sum_cost moduli = sum moduli

-- p is the least power of two that isn't below n
pub record IsLeastPower (n p : ℕ) : Type 0 where
  pub power : IsPowerOfTwo p
  pub enough : n ≤ p
  pub least : (q : ℕ) → IsPowerOfTwo q → n ≤ q → p ≤ q

-- the first of p, 2 * p, 4 * p .. that isn't below n, where it is among the first so many
abbrev pub power_from : (more p n : ℕ) → ℕ
power_from zero p n = p
power_from (suc more) p n = if nat_lt p n then power_from more (2 * p) n else p

unfoldable pub least_power : ℕ → ℕ
least_power n = power_from 64 1 n

abbrev pub powers_cost : List ℕ → ℕ
powers_cost moduli = stopped (product (map least_power moduli))
