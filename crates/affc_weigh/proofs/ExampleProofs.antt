-- The costs of small lists.
use Rattle.std.proofs.Common.{◌+◌, ◌^◌, ◌≤◌, [], ◌∷◌, refl, arith, lit≤}
use Rattle.std.proofs.lemmas.List.Elements.{All-nil, All-cons, All-head}
use Rattle.affc_weigh.specs.Costs.{AreModuli, least_power}
use Rattle.affc_weigh.specs.Examples.{CostsOfNone, CostsOfThree, ProductsStop, OtherLists, OrderOfLists, FewerIsMore}

pub costs_of_none : CostsOfNone
costs_of_none = (refl, refl, refl)

pub costs_of_three : CostsOfThree
unfolding least_power
costs_of_three = (refl, refl, refl)

pub products_stop : ProductsStop
products_stop = refl

one_is : AreModuli (1 ∷ [])
one_is = record { few = lit≤ tt; within = All-cons (λ m. (1 ≤ m) × (m ≤ 2 ^ 60)) 1 [] (lit≤ tt, lit≤ tt) (All-nil (λ m. (1 ≤ m) × (m ≤ 2 ^ 60))) }

two_is : AreModuli (2 ∷ [])
two_is = record { few = lit≤ tt; within = All-cons (λ m. (1 ≤ m) × (m ≤ 2 ^ 60)) 2 [] (lit≤ tt, lit≤ tt) (All-nil (λ m. (1 ≤ m) × (m ≤ 2 ^ 60))) }

too_many : 5 ≤ 4 → ⊥
too_many h = omega arith

too_low : 1 ≤ 0 → ⊥
too_low h = omega arith

too_high : 2 ^ 60 + 1 ≤ 2 ^ 60 → ⊥
too_high h = omega arith

pub other_lists : OtherLists
other_lists = (
  record { few = lit≤ tt; within = All-nil (λ m. (1 ≤ m) × (m ≤ 2 ^ 60)) },
  record {
    few = lit≤ tt;
    within =
        All-cons (λ m. (1 ≤ m) × (m ≤ 2 ^ 60)) 1 ((2 ^ 60) ∷ 3 ∷ 4 ∷ []) (lit≤ tt, lit≤ tt)
        (All-cons (λ m. (1 ≤ m) × (m ≤ 2 ^ 60)) (2 ^ 60) (3 ∷ 4 ∷ []) (lit≤ tt, lit≤ tt)
        (All-cons (λ m. (1 ≤ m) × (m ≤ 2 ^ 60)) 3 (4 ∷ []) (lit≤ tt, lit≤ tt)
        (All-cons (λ m. (1 ≤ m) × (m ≤ 2 ^ 60)) 4 [] (lit≤ tt, lit≤ tt) (All-nil (λ m. (1 ≤ m) × (m ≤ 2 ^ 60))))));
  },
  λ m. too_many m.few,
  λ m. too_low (All-head (λ m. (1 ≤ m) × (m ≤ 2 ^ 60)) 0 [] m.within).0,
  λ m. too_high (All-head (λ m. (1 ≤ m) × (m ≤ 2 ^ 60)) (2 ^ 60 + 1) [] m.within).1,
)

three_two : 3 ≤ 2 → ⊥
three_two h = omega arith

pub order_of_lists : OrderOfLists
order_of_lists = ((lit≤ tt, (lit≤ tt, tt)), λ h. three_two h.1.0, λ h. h.1, λ h. h.1)

falls : 99 ≤ 98 → ⊥
falls h = omega arith

pub fewer_is_more : FewerIsMore
fewer_is_more never = falls (never (1 ∷ []) (2 ∷ []) 99 98 one_is two_is (lit≤ tt, tt) refl refl)
