-- Budgets of which no unit is left.
use Rattle.std.proofs.Common.{◌≡◌, ◌∙◌, arith}
use Rattle.std.specs.Prelude.{Option, Some, None, IfNone}
use Rattle.affc_split.specs.Budgets.{Account, IsLater}
use Rattle.affc_moduli.specs.Ended.{IsSpent}

-- what is spent is the limit
pub is_spent : (budget : Account) → budget.limit ≡ Some budget.spent → IsSpent budget
is_spent budget e = record { most = budget.spent; limit = e; reached = omega arith }

pub stays_spent : (before after : Account) → IsLater before after → IsSpent before → IsSpent after
stays_spent before after later spent = record {
  most = spent.most;
  limit = later.limit ∙ spent.limit;
  reached = let a = spent.reached in let b = later.grows in omega arith;
}

pub none_later : {A : Type 0} (o : Option A) (before after : Account) → IsLater before after → IfNone o (IsSpent before) → IfNone o (IsSpent after)
none_later None before after later h = stays_spent before after later h
none_later (Some a) before after later h = tt
