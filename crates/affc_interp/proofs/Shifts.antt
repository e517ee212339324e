-- Shifts by all bits and more.
use Rattle.std.proofs.Common.{◌≡◌, ℕ, ◌+◌, ◌*◌, ◌%◌, ◌^◌, ◌<◌, ◌≤◌, ◌-◌, Bool, true, false, sym, ap, ◌∙◌, arith}
use Rattle.std.proofs.lemmas.Nat.{pow-add}
use Rattle.std.proofs.Math.Nat.{mul-mod_left, div-eq_of_lt, pow-le-pow_right}
use Rattle.affc_ast.specs.Values.{shifted}

regroup : (x a m : ℕ) → x * (a * m) ≡ (x * a) * m
regroup x a m = omega arith

gone_left : (x k m n : ℕ) → m ≡ 2 ^ k * n → (x * m) % n ≡ 0
gone_left x k m n e = ap (λ p. (x * p) % n) e ∙ ap (λ p. p % n) (regroup x (2 ^ k) n) ∙ mul-mod_left (x * 2 ^ k) n

pub shifted_out : (left : Bool) (x by : ℕ) → x < 2 ^ 64 → 64 ≤ by → 0 ≡ shifted left x by
shifted_out true x by fits h = let e : by ≡ (by - 64) + 64 = omega arith in sym (gone_left x (by - 64) (2 ^ by) (2 ^ 64) (ap (λ n. 2 ^ n) e ∙ pow-add 2 (by - 64) 64))
shifted_out false x by fits h = let le : 2 ^ 64 ≤ 2 ^ by = pow-le-pow_right {n = 2} (omega arith) h in sym (div-eq_of_lt (omega arith))
