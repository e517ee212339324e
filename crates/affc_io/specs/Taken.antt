-- The bytes that a sink has taken, where it tells them.
use Rattle.std.specs.Prelude.{◌++◌, ℕ, List, [], take, Option, None, Some, Result, Ok, Err}

-- These bytes more. A sink that tells goes on telling, and one that doesn't tell doesn't.
abbrev pub grown : Option (List ℕ) → List ℕ → Option (List ℕ)
grown None piece = None
grown (Some bytes) piece = Some (bytes ++ piece)

-- what a write took of the bytes: as many as it answers, from the front
abbrev pub taken_of : {E : Type 0} → Result ℕ E → List ℕ → List ℕ
taken_of (Ok n) bytes = take n bytes
taken_of (Err e) bytes = []
