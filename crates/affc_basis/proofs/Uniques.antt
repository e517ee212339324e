-- A greatest distance, a need, a greatest value and a cost are unique.
use Rattle.std.proofs.Common.{◌≡◌, ℕ, ◌<◌, ◌≤◌, ℤ, pos, ◌≤ℤ◌, List, [], ◌∷◌, refl, sym, ap, ◌∙◌, inl, inr, arith}
use Rattle.std.proofs.lemmas.Int.{ints}
use Rattle.affc_rows.specs.Forms.{Affine, value}
use Rattle.affc_basis.specs.Slices.{along, IsGreatest}
use Rattle.affc_basis.specs.Folds.{forms_of, IsNeed, IsGreatestValue, AreGreatestValues}
use Rattle.affc_basis.specs.Laws.{GreatestIsUnique, NeedIsUnique, GreatestValueIsUnique, CostIsUnique}

both : (n m : ℕ) → n ≤ m → m ≤ n → n ≡ m
both n m h k = omega arith

up_to : (z : ℤ) (n m : ℕ) → z ≡ pos n → z ≤ℤ pos m → n ≤ m
up_to z n m e h = omega (arith, ints)

module _ (InContext : List ℤ → Type 0) (pairs : List ℤ → List ℤ → List ℤ → Type 0) where
  greatest_at_most : (p : List ℤ) (rows : List Affine) (k : ℕ) (row : Affine) (n m : ℕ) → IsGreatest (pairs p) rows k row n → IsGreatest (pairs p) rows k row m → n ≤ m
  greatest_at_most p rows k row n m g h = elim g.attained [
    | inl e ↦ omega (arith, e)
    | inr f ↦ (let l : along row f.0 f.1 ≤ m = h.most f.0 f.1 f.2 in omega (arith, f.3))
  ]

  pub greatest_is_unique : GreatestIsUnique pairs
  greatest_is_unique p rows k row n m g h = both n m (greatest_at_most p rows k row n m g h) (greatest_at_most p rows k row m n h g)

  need_at_most : (rows : List Affine) (k : ℕ) (row : Affine) (n m : ℕ) → IsNeed InContext pairs rows k row n → IsNeed InContext pairs rows k row m → n ≤ m
  need_at_most rows k row n m a b = elim a.least [
    | inl e ↦ (let l : 1 ≤ m = b.positive in omega (arith, e))
    | inr f ↦ (let l : along row f.2 f.3 < m = b.exceeds f.0 f.1 f.2 f.3 f.4 in omega (arith, f.5))
  ]

  pub need_is_unique : NeedIsUnique InContext pairs
  need_is_unique rows k row n m a b = both n m (need_at_most rows k row n m a b) (need_at_most rows k row m n b a)

  value_at_most : (modulus : Affine) (n m : ℕ) → IsGreatestValue InContext modulus n → IsGreatestValue InContext modulus m → n ≤ m
  value_at_most modulus n m a b = let at = a.attained in up_to (value modulus at.0) n m at.2 (b.most at.0 at.1)

  pub greatest_value_is_unique : GreatestValueIsUnique InContext
  greatest_value_is_unique modulus n m a b = both n m (value_at_most modulus n m a b) (value_at_most modulus m n b a)

  values_are_unique : (moduli : List Affine) (ns ms : List ℕ) → AreGreatestValues InContext moduli ns → AreGreatestValues InContext moduli ms → ns ≡ ms
  values_are_unique [] [] [] a b = refl
  values_are_unique [] [] (m ∷ ms) a b = absurd b
  values_are_unique [] (n ∷ ns) ms a b = absurd a
  values_are_unique (f ∷ fs) [] ms a b = absurd a
  values_are_unique (f ∷ fs) (n ∷ ns) [] a b = absurd b
  values_are_unique (f ∷ fs) (n ∷ ns) (m ∷ ms) a b =
      ap (λ l. l ∷ ns) (greatest_value_is_unique f n m a.0 b.0) ∙ ap (λ l. m ∷ l) (values_are_unique fs ns ms a.1 b.1)

  pub cost_is_unique : CostIsUnique InContext
  cost_is_unique stored fold n m a b =
      a.is_stored ∙ ap stored (values_are_unique (forms_of fold.moduli) a.values b.values a.are_greatest b.are_greatest) ∙ sym b.is_stored
