-- Budgets: how many boxes may be opened, if that is counted, and how many were.
use Rattle.std.specs.Prelude.{◌≡◌, ℕ, ◌+◌, ◌≤◌, Option, Some, IfSome, IsSomeAnd, IsNone}

pub record Account : Type 0 where
  pub limit : Option ℕ
  pub spent : ℕ

-- what is spent doesn't pass the limit
abbrev pub Within : Account → Type 0
Within account = IfSome account.limit (λ l. account.spent ≤ l)

-- a unit is counted, where units are
abbrev pub IsUnit : Account → Account → Type 0
IsUnit before after = (l : ℕ) → before.limit ≡ Some l → after.spent ≡ before.spent + 1

-- the budget after some boxes were opened, or none: its limit is the same, and what is spent never falls; where nothing is counted, nothing
-- is spent
pub record IsLater (before after : Account) : Type 0 where
  pub limit : after.limit ≡ before.limit
  pub grows : before.spent ≤ after.spent
  pub uncounted : IsNone before.limit → after.spent ≡ before.spent

-- a budget of at most so many units of a whole one: as much is spent, it ends where the whole one does or before, and it is spent from the
-- first only where the whole one is
pub record IsPartOf (units : ℕ) (part whole : Account) : Type 0 where
  pub spent : part.spent ≡ whole.spent
  pub few : IfSome part.limit (λ k. k ≤ whole.spent + units)
  pub within : (l : ℕ) → whole.limit ≡ Some l → IsSomeAnd part.limit (λ k. k ≤ l)
  pub unspent : 1 ≤ units → part.limit ≡ Some part.spent → whole.limit ≡ Some whole.spent
