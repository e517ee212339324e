-- The boxes that a decision opens.
use Rattle.std.specs.Prelude.{◌≡◌, ◌≢◌, ◌⊎◌, ℕ, ◌+◌, ◌≤◌, List, [], ◌∷◌, length, ℤ, Some}
use Rattle.std.specs.List.{All}
use Rattle.affc_system.specs.Boxes.{IsBox, InBox}
use Rattle.affc_system.specs.Order.{LexLe}
use Rattle.affc_farkas.specs.declared.proof.Proof.{Proof, Leaf, Cut', Split'}
use Rattle.affc_split.specs.declared.search.Answer.{Answer}
use Rattle.affc_split.specs.declared.search.Answer.TheVariants.{Empty, Point}
use Rattle.affc_split.specs.Budgets.{Account}

-- how many leaves, cuts and splits a proof has
abbrev pub nodes : Proof → ℕ
nodes (Leaf by) = 1
nodes (Cut' by g row p rest) = nodes rest + 1
nodes (Split' form at p low q high) = (nodes low + nodes high) + 1

-- each point of the first box is one of the second
abbrev pub IsPart : List (ℤ × ℤ) → List (ℤ × ℤ) → Type 0
IsPart inner outer = (x : List ℤ) → InBox inner x → InBox outer x

-- no box stands twice
abbrev pub AreDistinct : List (List (ℤ × ℤ)) → Type 0
AreDistinct [] = Unit {0}
AreDistinct (b ∷ bs) = All (λ c. c ≢ b) bs × AreDistinct bs

-- the box holds the point, or all its points are before it
abbrev pub IsUpTo : List ℤ → List (ℤ × ℤ) → Type 0
IsUpTo x box = InBox box x ⊎ ((z : List ℤ) → InBox box z → LexLe z x)

-- beside a proof the boxes are no more than its nodes; beside a point each of them holds it or lies before it
abbrev pub AreNeeded : Answer → List (List (ℤ × ℤ)) → Type 0
AreNeeded (Empty p) boxes = length boxes ≤ nodes p
AreNeeded (Point x) boxes = All (IsUpTo x.items) boxes

-- the boxes that a call opens, with a unit for each where units are counted: the whole box, and then parts of it, none twice; beside a
-- proof no more than its nodes, and beside a point none behind it
pub record Opened (whole : List (ℤ × ℤ)) (before after : Account) (answer : Answer) : Type 0 where
  pub others : List (List (ℤ × ℤ))
  pub distinct : AreDistinct (whole ∷ others)
  pub ordered : All IsBox others
  pub parts : All (λ b. IsPart b whole) others
  pub counted : (l : ℕ) → before.limit ≡ Some l → after.spent ≡ before.spent + length (whole ∷ others)
  pub needed : AreNeeded answer (whole ∷ others)
