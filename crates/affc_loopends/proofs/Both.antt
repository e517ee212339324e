-- Facts that hold exactly where others do.
use Rattle.std.proofs.Common.{◌≡◌, ℕ, suc, ◌+◌, subst, sym, arith}
use Rattle.std.specs.Prelude.{◌↔◌}

pub both : (P Q R S : Type 0) → P ↔ Q → R ↔ S → (P × R) ↔ (Q × S)
both P Q R S h k = ((λ p. (h.0 p.0, k.0 p.1)), (λ q. (h.1 q.0, k.1 q.1)))

-- ... at equal things
pub at_equal : {A : Type 0} (P : A → Type 0) (a b : A) → a ≡ b → P a ↔ P b
at_equal P a b e = ((λ p. subst P e p), (λ q. subst P (sym e) q))

pub plus_one : (n : ℕ) → n + 1 ≡ suc n
plus_one n = omega arith
