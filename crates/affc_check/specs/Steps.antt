-- Items that hold by the first of the proofs.
use Rattle.std.specs.Prelude.{◌≡◌, ℕ, List, [], ◌∷◌}
use Rattle.affc_system.specs.Systems.{IsPoint}
use Rattle.affc_farkas.specs.declared.proof.Proof.{Proof}
use Rattle.affc_check.specs.list.Items.{Item, Question, Shown}
use Rattle.affc_check.specs.Valid.{IsProved}
use Rattle.affc_check.specs.declared.checks.Outcome.{Outcome}
use Rattle.affc_check.specs.declared.checks.Outcome.TheVariants.{Holds, Unproved, Unmet}

-- the items hold by these proofs, of which they leave the rest
abbrev pub Leaves : List Item → (proofs rest : List Proof) → Type 0
Leaves [] proofs rest = rest ≡ proofs
Leaves (Shown system point ∷ is) proofs rest = IsPoint system point × Leaves is proofs rest
Leaves (Question system ∷ is) [] rest = ⊥
Leaves (Question system ∷ is) (p ∷ ps) rest = IsProved system p × Leaves is ps rest

-- ---- Outcomes

abbrev pub IsHolding : Outcome → List Proof → Type 0
IsHolding (Holds left) rest = left.now ≡ rest
IsHolding (Unproved n) rest = ⊥
IsHolding (Unmet n) rest = ⊥

abbrev pub IsUnproved : Outcome → ℕ → Type 0
IsUnproved (Holds left) n = ⊥
IsUnproved (Unproved number) n = number ≡ n
IsUnproved (Unmet number) n = ⊥

abbrev pub IsUnmet : Outcome → ℕ → Type 0
IsUnmet (Holds left) n = ⊥
IsUnmet (Unproved number) n = ⊥
IsUnmet (Unmet number) n = number ≡ n
