-- What a checked operation answers, where its value is equal to another.
use Rattle.std.proofs.Common.{◌≡◌, ℤ, pos, ◌+ℤ◌, ◌*ℤ◌, ◌∙◌, sym, ap}
use lib.IntN.{*ℤ_comm}
use Rattle.affc_rows.proofs.IntLemmas.{one-mul}
use Rattle.std.specs.Prelude.{Option, Some, None, IfSome, SomeIff}

pub some_value : (r : Option ℤ) (P : Type 0) (v w : ℤ) → SomeIff r P v → v ≡ w → IfSome r (λ t. t ≡ w)
some_value None P v w h e = tt
some_value (Some x) P v w h e = h.1 ∙ e

pub sum_is : (sum times constant product : ℤ) → product ≡ constant *ℤ times → product +ℤ sum ≡ (times *ℤ constant) +ℤ (pos 1 *ℤ sum)
sum_is sum times constant product e = ap (λ z. z +ℤ sum) (e ∙ *ℤ_comm constant times) ∙ ap (λ z. (times *ℤ constant) +ℤ z) (sym (one-mul sum))
