-- Later states of a budget.
use Rattle.std.proofs.Common.{refl, sym, subst, ◌∙◌, arith}
use Rattle.std.specs.Prelude.{IsNone}
use Rattle.affc_split.specs.Budgets.{Account, IsLater}

pub same : (a : Account) → IsLater a a
same a = record { limit = refl; uncounted = λ h. refl; grows = omega arith }

pub then_later : (a b c : Account) → IsLater a b → IsLater b c → IsLater a c
then_later a b c h k = record {
  limit = k.limit ∙ h.limit;
  uncounted = λ n. k.uncounted (subst IsNone (sym h.limit) n) ∙ h.uncounted n;
  grows = let x = h.grows in let y = k.grows in omega arith;
}
