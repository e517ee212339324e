-- Questions in product form: a front of rows, and behind it one alternative of each of several factors.
use Rattle.std.specs.Prelude.{◌≡◌, ℕ, zero, suc, List, [], ◌∷◌, ◌++◌, Some, slice_get}
use Rattle.affc_system.specs.Systems.{Rows}
use Rattle.affc_farkas.specs.declared.proof.Proof.{Proof}
use Rattle.affc_products.specs.Parts.{IsWithin, IsProof}
pub use Rattle.affc_products.specs.Products.{choices, product, longest, tallest}
use Rattle.affc_products.specs.declared.block.Block.{Block}

-- the questions of a block: behind the front one alternative of each factor and then one of the tails
abbrev pub block_questions : Block → List Rows
block_questions b = product b.columns b.front.now (b.factors.now ++ b.tails ∷ [])

-- ---- Limits

-- one of these questions isn't within the limits of a system
pub record AnyPast (questions : List Rows) : Type 0 where
  pub number : ℕ
  pub question : Rows
  pub there : slice_get questions number ≡ Some question
  pub past : ¬ (IsWithin question)

-- ---- Proofs, one for each question, in order

-- each question has a proof, and these are left
abbrev pub AreProved : List Rows → (proofs rest : List Proof) → Type 0
AreProved [] proofs rest = rest ≡ proofs
AreProved (q ∷ qs) [] rest = ⊥
AreProved (q ∷ qs) (p ∷ ps) rest = IsProof q p × AreProved qs ps rest

-- the question with this number, from 0, is the first without one
abbrev pub FailsAt : List Rows → (proofs : List Proof) → ℕ → Type 0
FailsAt [] proofs n = ⊥
FailsAt (q ∷ qs) [] zero = Unit {0}
FailsAt (q ∷ qs) [] (suc n) = ⊥
FailsAt (q ∷ qs) (p ∷ ps) zero = ¬ (IsProof q p)
FailsAt (q ∷ qs) (p ∷ ps) (suc n) = IsProof q p × FailsAt qs ps n
