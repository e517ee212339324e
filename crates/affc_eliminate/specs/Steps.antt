-- A column eliminated from rows: what is asked of them, and what is left.
use Rattle.std.specs.Prelude.{◌≡◌, ◌≢◌, ◌⊎◌, ◌↔◌, ℕ, ◌+◌, ◌^◌, ◌<◌, ◌≤◌, Bool, false, List, [], ◌∷◌, ◌++◌, length, slice_index_or, ℤ, pos, ◌≤ℤ◌, ◌<ℤ◌}
use Rattle.std.specs.List.{All, Contains}
use Rattle.affc_rows.specs.Forms.{Affine, HaveColumns}
use Rattle.affc_farkas.specs.Multiples.{entry_of}
use Rattle.affc_farkas.specs.declared.pair.Pair.{Pair}
use Rattle.affc_eliminate.specs.Points.{HoldAt, Extends, IsTrivial}
use Rattle.affc_rows.specs.Vocabulary.{opposite}
use Rattle.affc_eliminate.specs.Mixtures.{forms_of, AreSumsOf, IsMixture, IsWide}
use Rattle.affc_eliminate.specs.declared.kept.Kept.{Kept}
use Rattle.affc_eliminate.specs.declared.kept.Step.{Step}
use Rattle.affc_eliminate.specs.declared.kept.Step.TheVariants.{Rows, TooWide}

-- the rows at every two different places, in both orders
abbrev pub EachTwo : (Kept → Kept → Type 0) → List Kept → Type 0
EachTwo R rows = (i j : ℕ) (k : Kept) → i < length rows → j < length rows → i ≢ j → R (slice_index_or rows i k) (slice_index_or rows j k)

-- their numbers differ
abbrev pub AreNumbered : List Kept → Type 0
AreNumbered rows = EachTwo (λ k q. k.number ≢ q.number) rows

-- the test answers false on them
abbrev pub AreScreened : (Affine → Affine → Bool → Type 0) → List Kept → Type 0
AreScreened Answers rows = EachTwo (λ k q. Answers k.row q.row false) rows

-- some row that isn't 0 in the column has its opposite among the rows
abbrev pub HasOpposite : ℕ → List Affine → Type 0
HasOpposite column rows = (f : Affine) × Contains rows f × Contains rows (opposite f) × (entry_of f column ≢ pos 0)

-- rows from which a column can be eliminated, where numbers from `free` on are free
pub record AreReady (rows : List Kept) (column free : ℕ) : Type 0 where
  pub columns : ℕ
  pub widths : HaveColumns columns (forms_of rows)
  pub column_in : column < columns
  pub few : length rows ≤ 8192
  pub numbered : AreNumbered rows
  pub below : All (λ k. k.number < free) rows
  pub free_small : free ≤ 2 ^ 31
  pub base : List Affine
  pub sums : AreSumsOf columns base rows

-- the pair names two of the rows, the first positive and the second negative in the column, and no pair that was made equals it
pub record IsNext (rows : List Kept) (column : ℕ) (made : List Pair) (p : Pair) (first second : Kept) : Type 0 where
  pub first_in : Contains rows first
  pub second_in : Contains rows second
  pub names : p ≡ record { first = first.number; second = second.number; column = column }
  pub positive : pos 0 <ℤ entry_of first.row column
  pub negative : entry_of second.row column <ℤ pos 0
  pub other : All (λ q. q ≢ p) made

-- the rows that pairs add to the given ones, with numbers from `free` on, in the order of the pairs
pub data AddEach (rows : List Kept) (column free : ℕ) : List Pair → List Kept → Type 0 where
  none : AddEach rows column free [] []
  more : (made : List Pair) (added : List Kept) (p : Pair) (first second new : Kept) → AddEach rows column free made added
      → IsNext rows column made p first second → IsMixture column first second new → new.number ≡ free + length made
      → AddEach rows column free (made ++ p ∷ []) (added ++ new ∷ [])

-- the rows that are left without the column, and the pairs that were made
pub record AreEliminated (Answers : Affine → Affine → Bool → Type 0) (rows : List Kept) (column free : ℕ) (new : List Kept) (made : List Pair) : Type 0 where
  pub added : List Kept
  pub add_each : AddEach rows column free made added
  pub given_or_added : All (λ k. Contains rows k ⊎ Contains added k) new
  pub numbered : AreNumbered new
  pub zero : All (λ k. entry_of k.row column ≡ pos 0) new
  pub sums : (columns : ℕ) (base : List Affine) → AreSumsOf columns base rows → AreSumsOf columns base new
  pub same_points : (x : List ℤ) (d : ℤ) → HaveColumns (length x) (forms_of rows) → column < length x → pos 1 ≤ℤ d
      → HoldAt x d (forms_of new) ↔ Extends column x d (forms_of rows)
  pub screened : AreScreened Answers new
  pub not_more : HasOpposite column (forms_of rows) → length new ≤ length rows
  pub not_trivial : All (λ k. IsTrivial k.row → ⊥) new

-- the pairs add rows, and in the row of one pair more a number is too great
pub record IsTooWide (rows : List Kept) (column free : ℕ) (made : List Pair) (next : Pair) : Type 0 where
  pub added : List Kept
  pub add_each : AddEach rows column free made added
  pub first : Kept
  pub second : Kept
  pub is_next : IsNext rows column made next first second
  pub wide : IsWide column first second

abbrev pub IsStep : (Affine → Affine → Bool → Type 0) → List Kept → ℕ → ℕ → Step → Type 0
IsStep Answers rows column free (Rows new made) = AreEliminated Answers rows column free new.items made.items
IsStep Answers rows column free (TooWide made next) = IsTooWide rows column free made.items next
