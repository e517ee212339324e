-- Pieces of text added one behind the other.
use Rattle.std.proofs.Common.{◌≡◌, ℕ, List, ◌++◌, Result, Ok, Err, OnOk, sym, ap, ◌∙◌, append_assoc}
use Rattle.affc_cprint.specs.Adds.{Adds}

infixr 20 ◌next◌
pub ◌next◌ : {o0 o1 o2 a b : List ℕ} → Adds o0 o1 a → Adds o1 o2 b → Adds o0 o2 (a ++ b)
◌next◌ {o0 = o0} {a = a} {b = b} p q = record { is = q.is ∙ ap (λ o. o ++ b) p.is ∙ append_assoc o0 a b }

-- what was added, and the last piece
pub ends : {A E : Type 0} (r : Result A E) {o0 o1 a : List ℕ} (o2 b t : List ℕ) → Adds o0 o1 a → OnOk r (Adds o1 o2 b) → t ≡ a ++ b → OnOk r (Adds o0 o2 t)
ends (Ok x) {o0 = o0} o2 b t p q e = record { is = (p next q).is ∙ ap (λ s. o0 ++ s) (sym e) }
ends (Err x) o2 b t p q e = q

-- what was added, in other words
pub told : {A E : Type 0} (r : Result A E) (o0 o1 a t : List ℕ) → OnOk r (Adds o0 o1 a) → t ≡ a → OnOk r (Adds o0 o1 t)
told (Ok x) o0 o1 a t p e = record { is = p.is ∙ ap (λ s. o0 ++ s) (sym e) }
told (Err x) o0 o1 a t p e = p
