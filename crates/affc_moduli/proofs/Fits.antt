-- Mixtures of small forms are within 128 bits.
use Rattle.std.proofs.Common.{ℕ, ◌+◌, ◌*◌, ◌^◌, ◌≤◌, List, [], ◌∷◌, ℤ, pos, inl, inr, arith}
use Rattle.std.specs.Prelude.{unsigned_abs}
use Rattle.std.specs.List.{All}
use Rattle.std.proofs.lemmas.List.Elements.{All-head, All-tail}
use Rattle.affc_rows.specs.Forms.{Affine, mixed_magnitudes, mixed_form_magnitudes, entry_magnitude, TooWide}
use Rattle.affc_conflicts.proofs.differences.Mixtures.{times}

entry_bound : (n : ℕ) (a c d : ℤ) (m b : ℕ) → unsigned_abs c ≤ n → unsigned_abs a ≤ m → unsigned_abs d ≤ b → entry_magnitude (pos 1) a c d ≤ m + n * b
entry_bound n a c d m b h k l = omega (arith, times n c d b h l)

mixed_fits : (n : ℕ) (us ds : List ℤ) (c : ℤ) (m b : ℕ) → unsigned_abs c ≤ n → m + n * b ≤ 2 ^ 126 → All (λ v. unsigned_abs v ≤ m) us → All (λ v. unsigned_abs v ≤ b) ds
    → TooWide (mixed_magnitudes (pos 1) us c ds) → ⊥
mixed_fits n [] ds c m b h r k l w = w
mixed_fits n (a ∷ us) [] c m b h r k l w = w
mixed_fits n (a ∷ us) (d ∷ ds) c m b h r k l w = elim w [
  | inl e ↦ absurd (omega (arith, entry_bound n a c d m b h (All-head (λ v. unsigned_abs v ≤ m) a us k) (All-head (λ v. unsigned_abs v ≤ b) d ds l), r, e))
  | inr f ↦ mixed_fits n us ds c m b h r (All-tail (λ v. unsigned_abs v ≤ m) a us k) (All-tail (λ v. unsigned_abs v ≤ b) d ds l) f
]

pub form_fits : (n : ℕ) (f g : Affine) (c : ℤ) (m b m' b' : ℕ) → unsigned_abs c ≤ n → m + n * b ≤ 2 ^ 126 → m' + n * b' ≤ 2 ^ 126
    → All (λ v. unsigned_abs v ≤ m) f.coefs → All (λ v. unsigned_abs v ≤ b) g.coefs → unsigned_abs f.constant ≤ m' → unsigned_abs g.constant ≤ b'
    → TooWide (mixed_form_magnitudes (pos 1) f c g) → ⊥
form_fits n f g c m b m' b' h r s k l kc lc w = elim w [
  | inl e ↦ absurd (omega (arith, entry_bound n f.constant c g.constant m' b' h kc lc, s, e))
  | inr t ↦ mixed_fits n f.coefs g.coefs c m b h r k l t
]
