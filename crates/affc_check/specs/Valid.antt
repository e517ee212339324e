-- When a certificate is valid, and which item is the first that fails.
use Rattle.std.specs.Prelude.{◌≤◌, ℕ, zero, suc, List, [], ◌∷◌, length}
use Rattle.std.specs.List.{All}
use Rattle.affc_rows.specs.Forms.{Affine}
use Rattle.affc_system.specs.Systems.{Rows, IsRow, IsPoint}
use Rattle.affc_farkas.specs.declared.proof.Proof.{Proof}
use Rattle.affc_farkas.specs.Depths.{StandAtNode}
use Rattle.affc_farkas.specs.Proofs.{ValidProof}
use Rattle.affc_check.specs.list.Items.{Item, Question, Shown}

-- a question within the limits of a system, and a valid proof that it has no integer point, at none of whose nodes more than
-- 1,024 rows stand
pub record IsProved (question : Rows) (proof : Proof) : Type 0 where
  pub columns : question.columns ≤ 128
  pub rows : All (IsRow question.columns) question.rows
  pub valid : ValidProof question proof
  pub few : (rows : List Affine) → StandAtNode question.rows proof rows → length rows ≤ 1024

-- how many questions are among the items
abbrev pub questions_among : List Item → ℕ
questions_among [] = 0
questions_among (Shown system point ∷ is) = questions_among is
questions_among (Question system ∷ is) = suc (questions_among is)

-- each point meets its rows, and each question has a proof, in order; proofs behind these aren't looked at
abbrev pub AreValid : List Item → List Proof → Type 0
AreValid [] proofs = Unit {0}
AreValid (Shown system point ∷ is) proofs = IsPoint system point × AreValid is proofs
AreValid (Question system ∷ is) [] = ⊥
AreValid (Question system ∷ is) (proof ∷ proofs) = IsProved system proof × AreValid is proofs

-- the item with this number, from 0, is the first that fails: a point that doesn't meet its rows, or a question without a proof, or
-- whose proof isn't valid
abbrev pub FailsFirst : List Item → List Proof → ℕ → Type 0
FailsFirst [] proofs n = ⊥
FailsFirst (Shown system point ∷ is) proofs zero = ¬ (IsPoint system point)
FailsFirst (Shown system point ∷ is) proofs (suc n) = IsPoint system point × FailsFirst is proofs n
FailsFirst (Question system ∷ is) [] zero = Unit {0}
FailsFirst (Question system ∷ is) [] (suc n) = ⊥
FailsFirst (Question system ∷ is) (proof ∷ proofs) zero = ¬ (IsProved system proof)
FailsFirst (Question system ∷ is) (proof ∷ proofs) (suc n) = IsProved system proof × FailsFirst is proofs n
