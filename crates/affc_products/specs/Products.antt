-- Questions in product form: a front of rows, and behind it one alternative of each of several factors.
use Rattle.std.specs.Prelude.{ℕ, ◌+◌, max, List, [], ◌∷◌, ◌++◌, length, map}
use Rattle.std.specs.List.{flat_map}
use Rattle.affc_rows.specs.Forms.{Affine}
use Rattle.affc_system.specs.Systems.{Rows}

-- one alternative of each factor, their rows behind one another, the first factor's slowest
abbrev pub choices : List (List (List Affine)) → List (List Affine)
choices [] = [] ∷ []
choices (alternatives ∷ factors) = flat_map (λ u. map (λ v. u ++ v) (choices factors)) alternatives

-- the systems of these rows with each choice behind them
abbrev pub product : (columns : ℕ) → (front : List Affine) → (factors : List (List (List Affine))) → List Rows
product columns front factors = map (λ rows. record { columns = columns; rows = front ++ rows }) (choices factors)

-- the most rows of an alternative, and of a choice
abbrev pub longest : List (List Affine) → ℕ
longest [] = 0
longest (u ∷ us) = max (length u) (longest us)

abbrev pub tallest : List (List (List Affine)) → ℕ
tallest [] = 0
tallest (f ∷ fs) = longest f + tallest fs
