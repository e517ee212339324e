-- Items and their proofs, one after the other.
use Rattle.std.proofs.Common.{◌≡◌, ℕ, zero, suc, ◌+◌, ◌≤◌, List, [], ◌∷◌, ◌++◌, length, map, Some, refl, sym, ap, subst, arith}
use Rattle.std.specs.Prelude.{slice_get}
use Rattle.std.specs.List.{All}
use Rattle.affc_rows.specs.Forms.{Affine}
use Rattle.affc_system.specs.Systems.{Rows, IsRow}
use Rattle.affc_farkas.specs.declared.proof.Proof.{Proof}
use Rattle.std.proofs.lemmas.List.Elements.{All-head, All-tail}
use Rattle.affc_products.specs.Parts.{IsWithin, IsProof}
use Rattle.affc_products.specs.Blocks.{AreProved, FailsAt, block_questions}
use Rattle.affc_products.specs.declared.block.Block.{Block}
use Rattle.affc_products.proofs.ChoiceLemmas.{kept_within}
use Rattle.affc_check.specs.Answers.{FailsAtQuestion}
use Rattle.affc_check.specs.list.Items.{Item, Question, Shown}
use Rattle.affc_check.specs.Steps.{Leaves}
use Rattle.affc_check.specs.Valid.{IsProved, AreValid, FailsFirst}

-- ---- One proof

-- a question within the limits is proved exactly where its proof is one within the limit of rows
pub is_proved : (q : Rows) (p : Proof) (rows : List Affine) → rows ≡ q.rows → All (IsRow q.columns) rows → q.columns ≤ 128 → IsProof q p → IsProved q p
is_proved q p rows e fit columns h = record { columns = columns; rows = subst (All (IsRow q.columns)) e fit; valid = h.valid; few = h.few }

pub is_proof : (q : Rows) (p : Proof) → IsProved q p → IsProof q p
is_proof q p h = record { valid = h.valid; few = h.few }

-- ---- Items that hold, and others behind them

pub valid_behind : (is js : List Item) (proofs rest : List Proof) → Leaves is proofs rest → AreValid js rest → AreValid (is ++ js) proofs
valid_behind [] js proofs rest h v = subst (AreValid js) h v
valid_behind (Question system ∷ is) js [] rest h v = absurd h
valid_behind (Question system ∷ is) js (p ∷ ps) rest h v = (h.0, valid_behind is js ps rest h.1 v)
valid_behind (Shown system point ∷ is) js proofs rest h v = (h.0, valid_behind is js proofs rest h.1 v)

pub fails_behind : (is js : List Item) (proofs rest : List Proof) (n m : ℕ) → m ≡ length is + n → Leaves is proofs rest → FailsFirst js rest n → FailsFirst (is ++ js) proofs m
fails_behind [] js proofs rest n m e h f = let same : n ≡ m = omega (arith, e) in subst (λ ps. FailsFirst js ps m) h (subst (FailsFirst js rest) same f)
fails_behind (Question system ∷ is) js [] rest n m e h f = absurd h
fails_behind (Question system ∷ is) js (p ∷ ps) rest n zero e h f = absurd (omega (arith, e))
fails_behind (Question system ∷ is) js (p ∷ ps) rest n (suc m) e h f = (h.0, fails_behind is js ps rest n m (omega (arith, e)) h.1 f)
fails_behind (Shown system point ∷ is) js proofs rest n zero e h f = absurd (omega (arith, e))
fails_behind (Shown system point ∷ is) js proofs rest n (suc m) e h f = (h.0, fails_behind is js proofs rest n m (omega (arith, e)) h.1 f)

pub fails_inside : (is js : List Item) (proofs : List Proof) (n : ℕ) → FailsFirst is proofs n → FailsFirst (is ++ js) proofs n
fails_inside [] js proofs n f = absurd f
fails_inside (Question system ∷ is) js [] zero f = tt
fails_inside (Question system ∷ is) js [] (suc n) f = absurd f
fails_inside (Question system ∷ is) js (p ∷ ps) zero f = f
fails_inside (Question system ∷ is) js (p ∷ ps) (suc n) f = (f.0, fails_inside is js ps n f.1)
fails_inside (Shown system point ∷ is) js proofs zero f = f
fails_inside (Shown system point ∷ is) js proofs (suc n) f = (f.0, fails_inside is js proofs n f.1)

-- ---- Questions

-- a question within the limits
proved_within : (q : Rows) (p : Proof) → IsWithin q → IsProof q p → IsProved q p
proved_within q p w h = record { columns = w.columns; rows = w.rows; valid = h.valid; few = h.few }

pub questions_leave : (qs : List Rows) (proofs rest : List Proof) → All IsWithin qs → AreProved qs proofs rest → Leaves (map Question qs) proofs rest
questions_leave [] proofs rest w h = h
questions_leave (q ∷ qs) [] rest w h = absurd h
questions_leave (q ∷ qs) (p ∷ ps) rest w h = (proved_within q p (All-head IsWithin q qs w) h.0, questions_leave qs ps rest (All-tail IsWithin q qs w) h.1)

pub questions_fail : (qs : List Rows) (proofs : List Proof) (n : ℕ) → All IsWithin qs → FailsAt qs proofs n → FailsFirst (map Question qs) proofs n
questions_fail [] proofs n w h = absurd h
questions_fail (q ∷ qs) [] zero w h = tt
questions_fail (q ∷ qs) [] (suc n) w h = absurd h
questions_fail (q ∷ qs) (p ∷ ps) zero w h = λ k. h (is_proof q p k)
questions_fail (q ∷ qs) (p ∷ ps) (suc n) w h = (proved_within q p (All-head IsWithin q qs w) h.0, questions_fail qs ps n (All-tail IsWithin q qs w) h.1)

-- the one that fails is there
pub question_there : (qs : List Rows) (proofs : List Proof) (n : ℕ) → FailsAt qs proofs n → (q : Rows) × (slice_get (map Question qs) n ≡ Some (Question q))
question_there [] proofs n h = absurd h
question_there (q ∷ qs) [] zero h = (q, refl)
question_there (q ∷ qs) [] (suc n) h = absurd h
question_there (q ∷ qs) (p ∷ ps) zero h = (q, refl)
question_there (q ∷ qs) (p ∷ ps) (suc n) h = question_there qs ps n h.1

-- each takes one proof
pub proofs_taken : (qs : List Rows) (proofs rest : List Proof) → Leaves (map Question qs) proofs rest → length proofs ≡ length (map Question qs) + length rest
proofs_taken [] proofs rest h = let e = ap length h in omega (arith, e)
proofs_taken (q ∷ qs) [] rest h = absurd h
proofs_taken (q ∷ qs) (p ∷ ps) rest h = let e = proofs_taken qs ps rest h.1 in omega (arith, e)

-- ---- What stands behind

pub get_behind : {A : Type 0} (xs ys : List A) (n m : ℕ) (x : A) → m ≡ length xs + n → slice_get ys n ≡ Some x → slice_get (xs ++ ys) m ≡ Some x
get_behind [] ys n m x e h = let same : n ≡ m = omega (arith, e) in subst (λ k. slice_get ys k ≡ Some x) same h
get_behind (y ∷ xs) ys n zero x e h = absurd (omega (arith, e))
get_behind (y ∷ xs) ys n (suc m) x e h = get_behind xs ys n m x (omega (arith, e)) h

-- ---- One question, and those of a block

pub fails_without : (q : Rows) (proofs : List Proof) (n : ℕ) → proofs ≡ [] → 0 ≡ n → FailsAtQuestion (Question q ∷ []) proofs n
fails_without q proofs n e z = subst (FailsAtQuestion (Question q ∷ []) proofs) z (record { first = subst (λ ps. FailsFirst (Question q ∷ []) ps 0) (sym e) tt; system = q; question = refl })

pub fails_with : (q : Rows) (p : Proof) (proofs rest : List Proof) (n : ℕ) → proofs ≡ p ∷ rest → ¬ (IsProved q p) → 0 ≡ n → FailsAtQuestion (Question q ∷ []) proofs n
fails_with q p proofs rest n e h z = subst (FailsAtQuestion (Question q ∷ []) proofs) z (record { first = subst (λ ps. FailsFirst (Question q ∷ []) ps 0) (sym e) h; system = q; question = refl })

pub block_within : (b : Block) → All IsWithin (block_questions b)
block_within b = kept_within b.columns b.front.now b.factors.now b.tails (b.few_columns, b.front_fits, b.factors_fit, b.tails_fit, b.room)

pub block_fails : (b : Block) (proofs : List Proof) (k n : ℕ) → FailsAt (block_questions b) proofs k → k ≡ n → FailsAtQuestion (map Question (block_questions b)) proofs n
block_fails b proofs k n h e =
    let qs = block_questions b in
    let there = question_there qs proofs k h in
    subst (FailsAtQuestion (map Question qs) proofs) e (record { first = questions_fail qs proofs k (block_within b) h; system = there.0; question = there.1 })
