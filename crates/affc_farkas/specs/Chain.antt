-- The rows that a chain of frames adds to those of a system.
use Rattle.std.specs.Prelude.{◌≡◌, ℕ, ◌-◌, ◌^◌, min, List, [], ◌∷◌, ◌++◌, length, map, ℤ, neg_ℤ, Bool, if◌then◌else◌}
use Rattle.affc_rows.specs.Forms.{Affine}
use Rattle.affc_system.specs.Systems.{IsRow}
use Rattle.affc_farkas.specs.declared.chain.Added.{Added, Nothing, More'}

-- the row with each coefficient negated where that is said, and another constant
abbrev pub frame_row : Affine → Bool → ℤ → Affine
frame_row form negated constant = record { coefs = (if negated then map neg_ℤ form.coefs else form.coefs); constant = constant }

-- the system's rows, and then those of the chain, the oldest first
abbrev pub rows_of : List Affine → Added → List Affine
rows_of base Nothing = base
rows_of base (More' form negated constant number p before q far) = rows_of base before ++ frame_row form.now negated constant ∷ []

-- the first rows of these
abbrev pub IsFront : List Affine → List Affine → Type 0
IsFront front rows = (rest : List Affine) × (rows ≡ front ++ rest)

-- each row of the chain has the system's columns and keeps the limits, and its number is its place; its further link is to rows that stand before it
abbrev pub IsChain : ℕ → List Affine → Added → Type 0
IsChain columns base Nothing = Unit {0}
IsChain columns base (More' form negated constant number p before q far) =
    (number ≡ min (length (rows_of base before)) (2 ^ 64 - 1)) × IsRow columns (frame_row form.now negated constant) × IsChain columns base before
    × IsChain columns base far × IsFront (rows_of base far) (rows_of base before)
