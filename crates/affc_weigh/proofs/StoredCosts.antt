-- The cost of a fold by what a stored cost answers.
use Rattle.std.proofs.Common.{◌≡◌, ℕ, ℤ, List, length, refl, subst, get_or}
use Rattle.std.proofs.lemmas.Grind.{same_number_lists}
use Rattle.affc_basis.specs.declared.fold.Fold.{Fold}
use Rattle.affc_basis.specs.Folds.{forms_of, AreGreatestValues, IsCost}
use Rattle.affc_basis.proofs.Uniques.{cost_is_unique}
use Rattle.affc_weigh.specs.Laws.{LessCostsNoMore, GivenCosts}

module _ (InContext : List ℤ → Type 0) where
  NoPairs : List ℤ → List ℤ → List ℤ → Type 0
  NoPairs p x y = ⊥

  costs : (stored : List ℕ → ℕ) (fold : Fold) (values : List ℕ) → AreGreatestValues InContext (forms_of fold.moduli) values → IsCost stored InContext fold (stored values)
  costs stored fold values are = record { values = values; are_greatest = are; is_stored = refl }

  one_value : (stored : List ℕ → ℕ) (fold : Fold) (ns ms : List ℕ) → AreGreatestValues InContext (forms_of fold.moduli) ns → AreGreatestValues InContext (forms_of fold.moduli) ms → stored ns ≡ stored ms
  one_value stored fold ns ms a b = cost_is_unique InContext NoPairs stored fold (stored ns) (stored ms) (costs stored fold ns a) (costs stored fold ms b)

  -- the moduli have one list of greatest values
  same_values : (fold : Fold) (ns ms : List ℕ) → AreGreatestValues InContext (forms_of fold.moduli) ns → AreGreatestValues InContext (forms_of fold.moduli) ms → ns ≡ ms
  same_values fold ns ms a b = same_number_lists ns ms (one_value length fold ns ms a b) (λ k h. one_value (λ l. get_or l k 0) fold ns ms a b)

  pub less_costs_no_more : (Answers : List ℕ → ℕ → Type 0) → LessCostsNoMore Answers InContext
  less_costs_no_more Answers fold other small great less more never a b s g h c d =
      never small great less more s g h
      (subst (λ l. Answers l less) (same_values fold c.values small c.are_greatest a) c.answered)
      (subst (λ l. Answers l more) (same_values other d.values great d.are_greatest b) d.answered)

  pub given_costs : GivenCosts InContext
  given_costs stored fold cost = (
    λ c. record { values = c.values; are_greatest = c.are_greatest; is_stored = c.answered },
    λ c. record { values = c.values; are_greatest = c.are_greatest; answered = c.is_stored },
  )
