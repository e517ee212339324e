-- Fronts of a list of bytes.
use Rattle.std.specs.Prelude.{◌≡◌, ◌++◌, ℕ, List}

-- `front` is a front of the bytes, maybe none or all of them
abbrev pub IsFront : List ℕ → List ℕ → Type 0
IsFront bytes front = (rest : List ℕ) × (front ++ rest ≡ bytes)
