-- Choices by their numbers: one of the tallest, and one in which a given row stands.
use Rattle.std.proofs.Common.{◌≡◌, ℕ, List}
use Rattle.std.specs.Prelude.{Some, slice_get}

-- an element with its number
pub record Pick {X : Type 0} (P : X → Type 0) (xs : List X) : Type 0 where
  pub number : ℕ
  pub picked : X
  pub there : slice_get xs number ≡ Some picked
  pub holds : P picked
