-- Forms at images of their columns.
use Rattle.std.proofs.Common.{◌≡◌, ℕ, zero, suc, ℤ, pos, ◌+ℤ◌, List, [], ◌∷◌, length, replicate, refl, sym, ap, arith}
use Rattle.std.proofs.lemmas.Int.{ints}
use Rattle.affc_rows.specs.Forms.{Affine, composed}
use Rattle.affc_order.specs.Posed.{form_at}
use Rattle.affc_order.specs.Spread.{spread}

zeros_composed : (j n : ℕ) → composed [] [] j n ≡ replicate n (pos 0)
zeros_composed j zero = refl
zeros_composed j (suc n) = ap (λ cs. pos 0 ∷ cs) (zeros_composed (suc j) n)

-- a form without columns
pub constant_at : (columns : ℕ) (f : Affine) → length f.coefs ≡ 0 → spread 0 0 columns f ≡ form_at columns [] f
constant_at columns f e = alone f.coefs f.constant e
  where
    same : (k : ℤ) → k ≡ pos 0 +ℤ k
    same k = omega (arith, ints)

    alone : (cs : List ℤ) (k : ℤ) → length cs ≡ 0 → spread 0 0 columns (record { coefs = cs; constant = k }) ≡ form_at columns [] (record { coefs = cs; constant = k })
    alone [] k e = λ i. record { coefs = sym (zeros_composed 0 columns) i; constant = same k i }
    alone (c ∷ cs) k e = absurd (omega (arith, e))
