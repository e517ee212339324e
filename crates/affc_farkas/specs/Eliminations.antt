-- Eliminations (Fourier and Motzkin): lists of pairs of rows, each of which adds the row that cancels a column between the two.
use Rattle.std.specs.Prelude.{◌≡◌, ◌≢◌, ◌⊎◌, ℕ, zero, suc, ◌+◌, ◌*◌, ◌^◌, ◌<◌, ◌≤◌, List, [], ◌∷◌, ◌++◌, length, map, replicate, slice_index_or, slice_set, ℤ, pos, ◌<ℤ◌, unsigned_abs}
use Rattle.std.specs.List.{All}
use Rattle.std.specs.Int.{IsGcd}
use Prim.Native.Nat.{◌∣◌}
use Rattle.affc_rows.specs.Forms.{Affine, dot}
use Rattle.affc_farkas.specs.Multiples.{entry_of}
use Rattle.affc_farkas.specs.declared.pair.Pair.{Pair}

-- an entry of the sum of the multiples of rows, with a weight for each row
abbrev pub combined : List Affine → List ℕ → ℕ → ℤ
combined rows weights j = dot (map pos weights) (map (λ row. entry_of row j) rows)

-- the weights of an input row itself
abbrev pub own : ℕ → ℕ → List ℕ
own count i = slice_set (replicate count 0) i 1

-- the weights of the first input rows
abbrev pub owns : ℕ → ℕ → List (List ℕ)
owns count zero = []
owns count (suc i) = owns count i ++ own count i ∷ []

-- the coefficient in a column of the row with this number, in a table of the rows' weights
abbrev pub coefficient : List Affine → List (List ℕ) → ℕ → ℕ → ℤ
coefficient rows table number column = combined rows (slice_index_or table number []) column

-- s times the first weights plus t times the second
abbrev pub mixed_weights : ℕ → List ℕ → ℕ → List ℕ → List ℕ
mixed_weights s [] t vs = []
mixed_weights s (w ∷ ws) t [] = []
mixed_weights s (w ∷ ws) t (v ∷ vs) = (s * w + t * v) ∷ mixed_weights s ws t vs

-- the least positive whole factors that make a and b one number: s a = t b
pub record AreFactors (a b s t : ℕ) : Type 0 where
  pub divisor : ℕ
  pub greatest : IsGcd a b divisor
  pub first : divisor * s ≡ b
  pub second : divisor * t ≡ a

-- weights divided by their greatest common divisor
pub record AreDivided (before weights : List ℕ) : Type 0 where
  pub divisor : ℕ
  pub positive : 1 ≤ divisor
  pub greatest : (k : ℕ) → All (λ w. k ∣ w) before → k ∣ divisor
  pub quotients : map (λ w. divisor * w) weights ≡ before

-- some weight is at least the bound
abbrev pub HasFrom : ℕ → List ℕ → Type 0
HasFrom bound [] = ⊥
HasFrom bound (w ∷ ws) = (bound ≤ w) ⊎ HasFrom bound ws

-- the weights of the row that cancels a column between two rows: factors of the two, and then the division
pub record IsAdded (rows : List Affine) (column : ℕ) (first second weights : List ℕ) : Type 0 where
  pub s : ℕ
  pub t : ℕ
  pub factors : AreFactors (unsigned_abs (combined rows first column)) (unsigned_abs (combined rows second column)) s t
  pub divided : AreDivided (mixed_weights s first t second) weights

-- some weight is at least 2^127 before the division, or greater than 2^53 after it
abbrev pub PassesLimit : List ℕ → Type 0
PassesLimit before = HasFrom (2 ^ 127) before ⊎ ((weights : List ℕ) × AreDivided before weights × HasFrom (2 ^ 53 + 1) weights)

-- the row that cancels a column between two rows has a weight that passes a limit
pub record IsWide (rows : List Affine) (column : ℕ) (first second : List ℕ) : Type 0 where
  pub s : ℕ
  pub t : ℕ
  pub factors : AreFactors (unsigned_abs (combined rows first column)) (unsigned_abs (combined rows second column)) s t
  pub passes : PassesLimit (mixed_weights s first t second)

-- the rules for a pair after those that were made: it names two rows that are there, the first positive and the second negative in its
-- column; every other column that was cancelled is 0 in both; and no pair that was made equals it
pub record IsNext (columns : ℕ) (rows : List Affine) (made : List Pair) (table : List (List ℕ)) (p : Pair) : Type 0 where
  pub first_there : p.first < length table
  pub second_there : p.second < length table
  pub column_there : p.column < columns
  pub positive : pos 0 <ℤ coefficient rows table p.first p.column
  pub negative : coefficient rows table p.second p.column <ℤ pos 0
  pub cancelled : All (λ q. q.column ≢ p.column → (coefficient rows table p.first q.column ≡ pos 0) × (coefficient rows table p.second q.column ≡ pos 0)) made
  pub other : All (λ q. q ≢ p) made

-- an elimination with the weights of all its rows: those of the input, and then those that the pairs add, in this order
pub data IsTable (columns : ℕ) (rows : List Affine) : List Pair → List (List ℕ) → Type 0 where
  none : IsTable columns rows [] (owns (length rows) (length rows))
  more : (made : List Pair) (table : List (List ℕ)) (p : Pair) (weights : List ℕ) → IsTable columns rows made table
      → IsNext columns rows made table p
      → IsAdded rows p.column (slice_index_or table p.first []) (slice_index_or table p.second []) weights → IsTable columns rows (made ++ p ∷ []) (table ++ weights ∷ [])

-- the pairs are an elimination of the rows
pub record IsElimination (columns : ℕ) (rows : List Affine) (made : List Pair) : Type 0 where
  pub table : List (List ℕ)
  pub is_table : IsTable columns rows made table
