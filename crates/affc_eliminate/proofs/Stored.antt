-- The tests by name can be stored.
use Rattle.std.proofs.Common.{◌≡◌, length, get_or, ℤ, pos, ◌*ℤ◌, ◌≤ℤ◌, sym, ap, subst, ◌∙◌, arith}
use Rattle.std.proofs.lemmas.Int.{ints}
use lib.IntN.{*ℤ_comm}
use Rattle.affc_rows.specs.Forms.{Affine}
use Rattle.affc_rows.proofs.IntLemmas.{one-mul}
use Rattle.affc_farkas.proofs.Implied.{implied}
use Rattle.affc_eliminate.specs.Points.{Implies}
use Rattle.affc_eliminate.specs.Screens.{HasSameSlope}

one_is_one : pos 1 ≤ℤ pos 1
one_is_one = omega (arith, ints)

once : (c : ℤ) → c *ℤ pos 1 ≡ c
once c = *ℤ_comm c (pos 1) ∙ one-mul c

pub slope_implies : (f g : Affine) → HasSameSlope f g → Implies f g
slope_implies f g h x d l one met =
    implied (pos 1) (pos 1) f g one_is_one one_is_one (ap length h.0) (λ j lt. ap (λ cs. get_or cs j (pos 0) *ℤ pos 1) h.0)
    (subst (λ z. z ≤ℤ (g.constant *ℤ pos 1)) (sym (once f.constant)) (subst (λ z. f.constant ≤ℤ z) (sym (once g.constant)) h.1)) x d one met
