-- The boxes that the search of a part opens, and what it spends.
use Rattle.std.specs.Prelude.{◌≡◌, ℕ, ◌+◌, ◌*◌, ◌<◌, ◌≤◌, List, [], ◌∷◌, length, ℤ, Some, Result, IfOk, IfErr}
use Rattle.std.specs.List.{All}
use Rattle.affc_system.specs.Boxes.{IsBox, InBox}
use Rattle.affc_leaf.specs.Cuts.{IsCutBefore}
use Rattle.affc_leaf.specs.Points.{points}
use Rattle.affc_leaf.specs.declared.cuts.Quotient.{Quotient}
use Rattle.affc_split.specs.declared.budget.Stop.{Stop}
use Rattle.affc_split.specs.declared.budget.Stop.TheVariants.{Budget}
use Rattle.affc_split.specs.declared.search.Answer.{Answer}
use Rattle.affc_split.specs.declared.search.Answer.TheVariants as answer
use Rattle.affc_split.specs.declared.search.Found.{Found}
use Rattle.affc_split.specs.declared.search.Found.TheVariants.{Empty, Point}
use Rattle.affc_split.specs.Budgets.{Account, IsLater}
use Rattle.affc_split.specs.Openings.{nodes, IsPart, AreDistinct, IsUpTo}

-- the proof has more nodes than these boxes and so many more; none of the boxes lies behind the point
abbrev pub AreFewer : ℕ → Found → List (List (ℤ × ℤ)) → Type 0
AreFewer more (Empty p) boxes = more + length boxes < nodes p.value
AreFewer more (Point x) boxes = All (IsUpTo x.items) boxes

-- the same of an answer
abbrev pub AreFewerFor : Answer → List (List (ℤ × ℤ)) → Type 0
AreFewerFor (answer.Empty p) boxes = length boxes < nodes p
AreFewerFor (answer.Point x) boxes = All (IsUpTo x.items) boxes

-- the boxes that are opened in the search of a part, beside the part itself: each lacks some point of the part. The part itself is
-- counted here or was before
pub record Searched (own : ℕ) (part : List (ℤ × ℤ)) (before after : Account) (Suit : List (List (ℤ × ℤ)) → Type 0) : Type 0 where
  pub others : List (List (ℤ × ℤ))
  pub distinct : AreDistinct others
  pub ordered : All IsBox others
  pub parts : All (λ b. IsPart b part) others
  pub proper : All (λ b. (x : List ℤ) × InBox part x × (InBox b x → ⊥)) others
  pub counted : (l : ℕ) → before.limit ≡ Some l → after.spent ≡ before.spent + (own + length others)
  pub suit : Suit others

-- what the search of a part spends and opens: for a part of n points at most 2n - 2 units, and one more where the part itself is
-- counted here, for boxes that are few for what is found. It stops only where the limit is reached, before so many are spent
pub record Spends {A : Type 0} (AreFew : A → List (List (ℤ × ℤ)) → Type 0) (own : ℕ) (part : List (ℤ × ℤ)) (before after : Account) (result : Result A Stop) : Type 0 where
  pub later : IsLater before after
  pub cost : after.spent + 2 ≤ before.spent + (own + 2 * points part)
  pub opened : IfOk result (λ found. Searched own part before after (AreFew found))
  pub stop : IfErr result (λ e. e ≡ Budget → after.limit ≡ Some after.spent)
  pub short : IfErr result (λ e. e ≡ Budget → after.spent + 3 ≤ before.spent + (own + 2 * points part))

-- the proof has so many nodes
abbrev pub HasNodes : ℕ → Found → Type 0
HasNodes n (Empty p) = nodes p.value ≡ n
HasNodes n (Point x) = ⊥

-- what is found in a whole of which one side has a proof of so many nodes, and this is found in the other side
abbrev pub IsBeside : ℕ → Found → Found → Type 0
IsBeside n (Empty p) whole = HasNodes ((n + nodes p.value) + 1) whole
IsBeside n (Point x) whole = whole ≡ Point x

-- what is found without a cut, by what is found with it: the same point, or the cut before the proof
abbrev pub IsBehind : Quotient → Found → Found → Type 0
IsBehind cut (Point x) whole = whole ≡ Point x
IsBehind cut (Empty p) (Point x) = ⊥
IsBehind cut (Empty p) (Empty q) = IsCutBefore ((cut.number, 1) ∷ []) cut.g cut.row p.value q.value
