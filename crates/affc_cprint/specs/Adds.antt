-- What is added to a text.
use Rattle.std.specs.Prelude.{◌≡◌, ℕ, List, ◌++◌}

pub record Adds (before after added : List ℕ) : Type 0 where
  pub is : after ≡ before ++ added
