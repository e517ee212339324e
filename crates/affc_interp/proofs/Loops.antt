-- The turns of a loop, one at a time.
use Rattle.std.proofs.Common.{◌≡◌, ℕ, suc, ◌+◌, ◌-◌, ◌<◌, ℤ, pos, ◌+ℤ◌, Bool, true, false, if◌then◌else◌, Result, Ok, Err, refl, ap, ◌∙◌, arith}
use Rattle.std.specs.Prelude.{nat_lt}
use Rattle.std.proofs.lemmas.Int.{ints}
use Rattle.affc_ast.specs.Cause.{Cause, Overflow}
use Rattle.affc_ast.specs.Index.{in_int64, is_int64}
use Rattle.affc_ast.specs.Store.{Store}
use Rattle.affc_interp.specs.Budget.{Run, OutOfSteps, after, stuck_or, once, turns_within}

-- a number that was read is one of int64_t
pub read_so : (node : ℕ) (z y : ℤ) → ◌≡◌ {A = Result ℤ Cause} (Ok y) (in_int64 node z) → (is_int64 z ≡ true) × (y ≡ z)
read_so node z y e = elim (is_int64 z) as (λ (t : Bool). ◌≡◌ {A = Result ℤ Cause} (Ok y) (if t then Ok z else Err (Overflow node)) → (t ≡ true) × (y ≡ z)) [ true ↦ λ h. (refl, cc) | false ↦ λ h. cc ] e

module _ (limit node : ℕ) (body : ℤ → Store → ℕ → Run) where
  abbrev on : ℕ → ℤ → Store → ℕ → Run
  on count x store n = after (body x store n) (λ left m. stuck_or (in_int64 node (x +ℤ pos 1)) (λ next. turns_within limit node count next body left m))

  one_more : (count k : ℕ) → k < count → count - k ≡ suc (count - (k + 1))
  one_more count k h = omega arith

  step_done : (m : ℕ) (z : ℤ) (left : Store) (n : ℕ) → stuck_or (in_int64 node z) (λ next. turns_within limit node m next body left n) ≡ after (stuck_or (in_int64 node z) (λ next. Ok (left, n))) (turns_within limit node m z body)
  step_done m z left n = elim (is_int64 z) as (λ (t : Bool). stuck_or (if t then Ok z else Err (Overflow node)) (λ next. turns_within limit node m next body left n) ≡ after (stuck_or (if t then Ok z else Err (Overflow node)) (λ next. Ok (left, n))) (turns_within limit node m z body)) [ true ↦ refl | false ↦ refl ]

  once_done : (m : ℕ) (z : ℤ) (r : Run) → after r (λ left n. stuck_or (in_int64 node z) (λ next. turns_within limit node m next body left n)) ≡ after (after r (λ left n. stuck_or (in_int64 node z) (λ next. Ok (left, n)))) (turns_within limit node m z body)
  once_done m z (Ok s) = step_done m z s.0 s.1
  once_done m z (Err stop) = refl

  once_then : (m : ℕ) (x : ℤ) (store : Store) (steps : ℕ) → turns_within limit node (suc m) x body store steps ≡ after (once limit node x body store steps) (turns_within limit node m (x +ℤ pos 1) body)
  once_then m x store steps =
      elim (nat_lt steps limit) as (λ (t : Bool). (if t then on m x store (steps + 1) else Err OutOfSteps) ≡ after (if t then after (body x store (steps + 1)) (λ left n. stuck_or (in_int64 node (x +ℤ pos 1)) (λ next. Ok (left, n))) else Err OutOfSteps) (turns_within limit node m (x +ℤ pos 1) body)) [
        | true ↦ once_done m (x +ℤ pos 1) (body x store (steps + 1))
        | false ↦ refl
      ]

  -- a turn and then the others
  pub turn_and_rest : (count k : ℕ) (x : ℤ) (store : Store) (steps : ℕ) → k < count → turns_within limit node (count - k) x body store steps ≡ after (once limit node x body store steps) (turns_within limit node (count - (k + 1)) (x +ℤ pos 1) body)
  turn_and_rest count k x store steps h = ap (λ n. turns_within limit node n x body store steps) (one_more count k h) ∙ once_then (count - (k + 1)) x store steps

pub next_one : (x : ℤ) (k : ℕ) → (x +ℤ pos k) +ℤ pos 1 ≡ x +ℤ pos (k + 1)
next_one x k = omega (arith, ints)
