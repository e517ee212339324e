-- No cost by name falls where no number falls.
use Rattle.std.proofs.Common.{◌≡◌, ℕ, ◌+◌, ◌^◌, ◌≤◌, List, [], ◌∷◌, arith, lit≤}
use Rattle.std.specs.Prelude.{map, sum}
use Rattle.std.specs.List.{All}
use Rattle.std.proofs.lemmas.List.Elements.{All-head, All-tail}
use Rattle.std.proofs.lemmas.List.Sums.{sum_by-cons}
use Rattle.std.proofs.Math.Nat.{mul-le-mul, le_trans, le_refl}
use Rattle.affc_weigh.specs.Costs.{AreAtMost, NeverFalls, Gives, product, least_power, words_cost, sum_cost, powers_cost}
use Rattle.affc_weigh.specs.Laws.{NamedNeverFall}
use Rattle.affc_weigh.proofs.Stopped.{stopped_rises}
use Rattle.affc_weigh.proofs.LeastPowers.{least_power_rises}

product_rises : (small great : List ℕ) → AreAtMost small great → product small ≤ product great
product_rises [] [] h = le_refl 1
product_rises [] (n ∷ ns) h = absurd h
product_rises (m ∷ ms) [] h = absurd h
product_rises (m ∷ ms) (n ∷ ns) h = mul-le-mul h.0 (product_rises ms ns h.1)

pub sum_first : (m : ℕ) (ms : List ℕ) → sum (m ∷ ms) ≡ m + sum ms
sum_first m ms = sum_by-cons (λ x. x) m ms

added : (m n a b c d : ℕ) → a ≡ m + c → b ≡ n + d → m ≤ n → c ≤ d → a ≤ b
added m n a b c d e f h k = omega arith

sum_rises : (small great : List ℕ) → AreAtMost small great → sum small ≤ sum great
sum_rises [] [] h = le_refl 0
sum_rises [] (n ∷ ns) h = absurd h
sum_rises (m ∷ ms) [] h = absurd h
sum_rises (m ∷ ms) (n ∷ ns) h = added m n (sum (m ∷ ms)) (sum (n ∷ ns)) (sum ms) (sum ns) (sum_first m ms) (sum_first n ns) h.0 (sum_rises ms ns h.1)

powers_rise : (small great : List ℕ) → All (λ m. (1 ≤ m) × (m ≤ 2 ^ 60)) great → AreAtMost small great → AreAtMost (map least_power small) (map least_power great)
powers_rise [] [] w h = tt
powers_rise [] (n ∷ ns) w h = absurd h
powers_rise (m ∷ ms) [] w h = absurd h
powers_rise (m ∷ ms) (n ∷ ns) w h = (
  least_power_rises m n h.0 (le_trans (All-head (λ m. (1 ≤ m) × (m ≤ 2 ^ 60)) n ns w).1 (lit≤ tt)),
  powers_rise ms ns (All-tail (λ m. (1 ≤ m) × (m ≤ 2 ^ 60)) n ns w) h.1,
)

between : (a b c d : ℕ) → a ≡ c → b ≡ d → c ≤ d → a ≤ b
between a b c d e f h = omega arith

pub named_never_fall : NamedNeverFall
named_never_fall = record {
  words = λ small great less more s g h a b. between less more (words_cost small) (words_cost great) a b (stopped_rises (product small) (product great) (product_rises small great h));
  sums = λ small great less more s g h a b. between less more (sum_cost small) (sum_cost great) a b (sum_rises small great h);
  powers = λ small great less more s g h a b. between less more (powers_cost small) (powers_cost great) a b
      (stopped_rises (product (map least_power small)) (product (map least_power great)) (product_rises (map least_power small) (map least_power great) (powers_rise small great g.within h)));
}

-- What only answers what a function gives never falls where the function doesn't.
pub answers_never_fall : (Answers : List ℕ → ℕ → Type 0) (cost : List ℕ → ℕ) → ((moduli : List ℕ) (answer : ℕ) → Answers moduli answer → answer ≡ cost moduli) → NeverFalls (Gives cost) → NeverFalls Answers
answers_never_fall Answers cost gives never small great less more s g h a b = never small great less more s g h (gives small less a) (gives great more b)
