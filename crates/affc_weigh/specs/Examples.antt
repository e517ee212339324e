-- What the costs are of small lists. Each value was found by hand from the rules.
use Rattle.std.specs.Prelude.{◌≡◌, ◌+◌, ◌-◌, ◌^◌, [], ◌∷◌}
use Rattle.affc_weigh.specs.Costs.{AreModuli, AreAtMost, NeverFalls, words_cost, sum_cost, powers_cost}

-- no list is no element more than one
abbrev pub CostsOfNone : Type 0
CostsOfNone = (words_cost [] ≡ 1) × (sum_cost [] ≡ 0) × (powers_cost [] ≡ 1)

-- 3, 5 and 8 are rounded up to 4, 8 and 8
abbrev pub CostsOfThree : Type 0
CostsOfThree = (words_cost (3 ∷ 5 ∷ 8 ∷ []) ≡ 120) × (sum_cost (3 ∷ 5 ∷ 8 ∷ []) ≡ 16) × (powers_cost (3 ∷ 5 ∷ 8 ∷ []) ≡ 256)

-- 2 ^ 180 is more than 128 bits hold
abbrev pub ProductsStop : Type 0
ProductsStop = words_cost ((2 ^ 60) ∷ (2 ^ 60) ∷ (2 ^ 60) ∷ []) ≡ 2 ^ 128 - 1

-- five numbers, 0 and 2 ^ 60 + 1 aren't moduli
abbrev pub OtherLists : Type 0
OtherLists =
    AreModuli []
    × AreModuli (1 ∷ (2 ^ 60) ∷ 3 ∷ 4 ∷ [])
    × (AreModuli (1 ∷ 2 ∷ 3 ∷ 4 ∷ 5 ∷ []) → ⊥)
    × (AreModuli (0 ∷ []) → ⊥)
    × (AreModuli ((2 ^ 60 + 1) ∷ []) → ⊥)

-- lists of different lengths, or of which each has a smaller number, aren't in order
abbrev pub OrderOfLists : Type 0
OrderOfLists =
    AreAtMost (2 ∷ 3 ∷ []) (2 ∷ 4 ∷ [])
    × (AreAtMost (2 ∷ 3 ∷ []) (3 ∷ 2 ∷ []) → ⊥)
    × (AreAtMost (2 ∷ []) (2 ∷ 3 ∷ []) → ⊥)
    × (AreAtMost (2 ∷ 3 ∷ []) (2 ∷ []) → ⊥)

-- 100 elements less those of the list
abbrev pub FewerIsMore : Type 0
FewerIsMore = NeverFalls (λ moduli answer. answer ≡ 100 - sum_cost moduli) → ⊥
