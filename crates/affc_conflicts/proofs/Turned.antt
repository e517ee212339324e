-- Distances, and marks, the other way round.
use Rattle.std.proofs.Common.{◌≡◌, ℕ, inl, inr, List, [], ◌∷◌, ℤ, ◌+ℤ◌, ◌-ℤ◌, ◌*ℤ◌, neg_ℤ, refl, ap, ◌∙◌, arith}
use Rattle.std.specs.Prelude.{unsigned_abs, Some}
use Rattle.std.proofs.lemmas.Int.{ints}
use Rattle.affc_rows.specs.Forms.{Affine, dot}
use Rattle.affc_rows.proofs.IntLemmas.{neg-mul}
use Rattle.affc_system.specs.Systems.{Rows}
use Rattle.affc_system.specs.declared.pairs.PairSystem.{PairSystem}
use Rattle.affc_system.specs.ElementPairs.{IsPairOf}
use Rattle.affc_basis.specs.Folds.{IsLeastMark}
use Rattle.affc_basis.specs.Slices.{minus, along, InSlice}
use Rattle.affc_conflicts.specs.Conditions.{InContext}
use lib.IntN.{*ℤ_comm}

pub times_turned : (c a b : ℤ) → c *ℤ (b -ℤ a) ≡ neg_ℤ (c *ℤ (a -ℤ b))
times_turned c a b = *ℤ_comm c (b -ℤ a) ∙ ap (λ v. v *ℤ c) (turned a b) ∙ neg-mul (a -ℤ b) c ∙ ap neg_ℤ (*ℤ_comm (a -ℤ b) c)
  where
    turned : (a b : ℤ) → b -ℤ a ≡ neg_ℤ (a -ℤ b)
    turned a b = omega (arith, ints)

pub both_turned : (a b c d : ℤ) → a ≡ neg_ℤ b → c ≡ neg_ℤ d → a +ℤ c ≡ neg_ℤ (b +ℤ d)
both_turned a b c d h k = omega (arith, ints)

pub dot-turned : (cs xs ys : List ℤ) → dot cs (minus ys xs) ≡ neg_ℤ (dot cs (minus xs ys))
dot-turned [] xs ys = refl
dot-turned (c ∷ cs) [] [] = refl
dot-turned (c ∷ cs) [] (y ∷ ys) = refl
dot-turned (c ∷ cs) (x ∷ xs) [] = refl
dot-turned (c ∷ cs) (x ∷ xs) (y ∷ ys) = both_turned _ _ _ _ (times_turned c x y) (dot-turned cs xs ys)

pub same_size : (a b : ℤ) → a ≡ neg_ℤ b → unsigned_abs a ≡ unsigned_abs b
same_size a b h = omega (arith, ints)

-- the distance is the same both ways
pub along-turned : (row : Affine) (x y : List ℤ) → along row y x ≡ along row x y
along-turned row x y = same_size _ _ (dot-turned row.coefs x y)

module _ (context : Rows) (ranges : List (ℤ × ℤ)) (systems : List PairSystem) (rows : List Affine) (k : ℕ) (row : Affine) where
  pair_turned : (p x y : List ℤ) → IsPairOf systems p x y → IsPairOf systems p y x
  pair_turned p x y h = record { system = h.system; there = h.there; either = elim h.either [ inl e ↦ inr e | inr e ↦ inl e ] }

  slice_turned : (p x y : List ℤ) → InSlice (IsPairOf systems p) rows k x y → InSlice (IsPairOf systems p) rows k y x
  slice_turned p x y h = record { pair = pair_turned p x y h.pair; agrees = λ j r l at. along-turned r x y ∙ h.agrees j r l at }

  -- a mark with its two elements in the other order is as true
  pub mark_turned : (b : Affine) (p : List ℤ) (pair : List ℤ × List ℤ) → IsLeastMark (InContext context ranges) (IsPairOf systems) rows k row b p (Some pair)
      → IsLeastMark (InContext context ranges) (IsPairOf systems) rows k row b p (Some (pair.1, pair.0))
  mark_turned b p pair mark = record {
    in_context = mark.in_context;
    highest = mark.highest;
    greatest = mark.greatest;
    is_greatest = mark.is_greatest;
    value_there = mark.value_there;
    attains = (slice_turned p pair.0 pair.1 mark.attains.0, along-turned row pair.0 pair.1 ∙ mark.attains.1, mark.attains.2);
  }
