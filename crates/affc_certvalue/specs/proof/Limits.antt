-- Proofs whose numbers fit 64 bits, and proofs within the limits of a certificate's.
use Rattle.affc_certvalue.specs.proof.Proofs.{Steps, Refuted, Cut, Split}
use Rattle.affc_certvalue.specs.Limits.{IsWord, FitsForm, AreSmall, IsSmall}
use Rattle.affc_farkas.specs.Multiples.{AreMultipliers}
use Rattle.affc_farkas.specs.declared.proof.Proof.{Proof, Leaf, Cut', Split'}
use Rattle.std.specs.List.{All}
use Rattle.std.specs.Prelude.{ℕ, ◌^◌, ◌<◌, ◌≤◌, ◌-ℤ◌, List, unsigned_abs}

-- a split is written at its number less the form's constant
abbrev pub FitsProof : Proof → Type 0
FitsProof (Leaf by) = Unit {0}
FitsProof (Cut' by g row p rest) = FitsForm row × FitsProof rest
FitsProof (Split' form at p low q high) = All IsWord form.coefs × IsWord (at -ℤ form.constant) × FitsProof low × FitsProof high

-- multipliers of rows whose numbers are below 2^32
pub record AreNumbered (by : List (ℕ × ℕ)) : Type 0 where
  pub multipliers : AreMultipliers by
  pub numbers : All (λ p. p.0 < 2 ^ 32) by

-- the rows of cuts and splits keep the limits of a system's
abbrev pub IsProofWithin : Steps → Type 0
IsProofWithin (Refuted by) = AreNumbered by
IsProofWithin (Cut by g row rest) = AreNumbered by × IsWord g × IsSmall (2 ^ 40) (2 ^ 60) row × IsProofWithin rest
IsProofWithin (Split coefs at low high) = AreSmall (2 ^ 40) coefs × (unsigned_abs at ≤ 2 ^ 60) × IsProofWithin low × IsProofWithin high
