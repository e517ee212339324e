-- Factors and quotients exist.
use Rattle.std.proofs.Common.{ℕ, ◌/◌, ◌≤◌, List, map, refl}
use Rattle.affc_farkas.specs.Eliminations.{AreFactors, AreDivided, HasFrom}
use Rattle.affc_farkas.proofs.Weights.{divisor_positive, divided_is, factors_are, factor_positive}
use Rattle.affc_loopends.proofs.bounding.Gcds.{gcd_of, gcd_of_all}

-- the least factors of two numbers that aren't 0
pub record HasFactors (a b : ℕ) : Type 0 where
  pub s : ℕ
  pub t : ℕ
  pub are : AreFactors a b s t
  pub some : 1 ≤ s

pub factors : (a b : ℕ) → 1 ≤ a → 1 ≤ b → HasFactors a b
factors a b one other =
    let g = gcd_of a b in
    record { s = b / g.0; t = a / g.0; are = factors_are a b g.0 one g.1; some = factor_positive a b g.0 one other g.1 }

-- weights of which some aren't 0 can be divided
pub divided : (before : List ℕ) → HasFrom 1 before → (weights : List ℕ) × AreDivided before weights
divided before some =
    let g = gcd_of_all before in
    (map (λ w. w / g.0) before, divided_is before (map (λ w. w / g.0) before) g.0 (divisor_positive g.0 before some g.1.0) g.1.0 g.1.1 refl)
