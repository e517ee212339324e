-- The state of a projection: the rows that are left, and what the pairs that were made have to do with them.
use Rattle.std.specs.Prelude.{◌≡◌, ◌⊎◌, ◌↔◌, ℕ, zero, suc, ◌<◌, ◌≤◌, List, [], ◌∷◌, ◌++◌, length, slice_index_or, ℤ, pos, ◌<ℤ◌, unsigned_abs}
use Rattle.std.specs.List.{All, Contains}
use Prim.Native.Nat.{◌∣◌}
use Rattle.affc_rows.specs.Forms.{Affine}
use Rattle.affc_farkas.specs.Multiples.{entry_of}
use Rattle.affc_farkas.specs.Eliminations.{IsTable, IsElimination}
use Rattle.affc_farkas.specs.declared.pair.Pair.{Pair}
use Rattle.affc_eliminate.specs.Mixtures.{forms_of, AreSumsOf, weight_of}
use Rattle.affc_eliminate.specs.Steps.{AreNumbered}
use Rattle.affc_eliminate.specs.declared.kept.Kept.{Kept}
use Rattle.affc_eliminate.specs.project.Projections.{ExtendsWhole, IsInLeastTerms, IsTooWide, AreFrom}
use Rattle.affc_eliminate.specs.declared.project.work.Work.{Work}
use Rattle.affc_eliminate.specs.declared.project.work.Stop.{Stop}
use Rattle.affc_eliminate.specs.declared.project.work.Stop.TheVariants.{Memory, TooMany, TooWide}

-- the weights of so many rows from number i on
abbrev pub dense : (count i : ℕ) → List (ℕ × ℕ) → List ℕ
dense zero i by = []
dense (suc count) i by = weight_of by i ∷ dense count (suc i) by

-- the row's weights for the system's rows stand in the table, and it has no others
pub record IsIn (count : ℕ) (table : List (List ℕ)) (k : Kept) : Type 0 where
  pub there : k.number < length table
  pub same : slice_index_or table k.number [] ≡ dense count 0 k.from
  pub within : (i : ℕ) → count ≤ i → weight_of k.from i ≡ 0

-- each row is 0 in the column
abbrev pub AreZero : ℕ → List Kept → Type 0
AreZero column live = All (λ k. entry_of k.row column ≡ pos 0) live

-- no point meets the row: its coefficients are 0, and its constant is below 0
abbrev pub IsContradiction : Affine → Type 0
IsContradiction row = ((j : ℕ) → j < length row.coefs → entry_of row j ≡ pos 0) × (row.constant <ℤ pos 0)

abbrev pub HasContradiction : List Kept → Type 0
HasContradiction live = (k : Kept) × Contains live k × IsContradiction k.row

-- rows that are left of an elimination: they stand in its table, and are 0 in each column that was cancelled
pub record IsState (columns : ℕ) (rows : List Affine) (made : List Pair) (live : List Kept) : Type 0 where
  pub table : List (List ℕ)
  pub is_table : IsTable columns rows made table
  pub sums : AreSumsOf columns rows live
  pub inside : All (IsIn (length rows) table) live
  pub numbered : AreNumbered live
  pub cancelled : All (λ q. (q.column < columns) × AreZero q.column live) made

-- one column less: it is 0 in each row that is left, and the same points extend over the columns before it; there are few pairs, or no
-- point meets some row
pub record IsCancelled (columns : ℕ) (rows : List Affine) (column : ℕ) (made : List Pair) (live : List Kept) (new : Work) : Type 0 where
  pub state : IsState columns rows new.made.items new.live.items
  pub few : (length new.made.items < 4096) ⊎ HasContradiction new.live.items
  pub zero : AreZero column new.live.items
  pub still : (j : ℕ) → j < columns → AreZero j live → AreZero j new.live.items
  pub beyond : (keep : ℕ) → keep ≤ column → AreFrom keep made → AreFrom keep new.made.items
  pub same_points : (whole : List ℤ) → length whole ≤ column → ExtendsWhole columns (forms_of new.live.items) whole ↔ ExtendsWhole columns (forms_of live) whole

-- why a projection ends early
abbrev pub IsStop : ℕ → List Affine → ℕ → Stop → Type 0
IsStop columns rows keep Memory = Unit {0}
IsStop columns rows keep (TooMany made) = IsElimination columns rows made.items × (length made.items ≡ 4096) × AreFrom keep made.items
IsStop columns rows keep (TooWide made next) = IsTooWide columns rows made.items next × AreFrom keep (made.items ++ next ∷ [])

-- the row at this place, as the sum of itself alone
pub record IsInput (rows : List Affine) (place : ℕ) (k : Kept) : Type 0 where
  pub row : k.row ≡ slice_index_or rows place k.row
  pub from : k.from ≡ (place, 1) ∷ []
  pub number : k.number ≡ place

pub record AreInputs (rows : List Affine) (live : List Kept) : Type 0 where
  pub long : length live ≡ length rows
  pub each : (i : ℕ) (d : Kept) → i < length live → IsInput rows i (slice_index_or live i d)

-- columns that are still to be cancelled, and every other column from `keep` on is 0 in each row
pub record AreLeft (columns keep : ℕ) (left : List ℕ) (live : List Kept) : Type 0 where
  pub inside : All (λ c. (keep ≤ c) × (c < columns)) left
  pub others : (j : ℕ) → keep ≤ j → j < columns → Contains left j ⊎ AreZero j live

-- all columns from `keep` on are cancelled
pub record IsDone (columns : ℕ) (rows : List Affine) (keep : ℕ) (made : List Pair) (live : List Kept) : Type 0 where
  pub state : IsState columns rows made live
  pub beyond : AreFrom keep made
  pub zeros : (j : ℕ) → keep ≤ j → j < columns → AreZero j live
  pub same_points : (whole : List ℤ) → length whole ≡ keep → ExtendsWhole columns (forms_of live) whole ↔ ExtendsWhole columns rows whole

-- the greatest common divisor of the numbers and of one more
pub record IsDivisor (divisor : ℕ) (numbers : List ℤ) (last : ℤ) : Type 0 where
  pub divides : All (λ n. divisor ∣ unsigned_abs n) numbers
  pub divides_last : divisor ∣ unsigned_abs last
  pub greatest : (k : ℕ) → All (λ n. k ∣ unsigned_abs n) numbers → k ∣ unsigned_abs last → k ∣ divisor

-- all numbers of the first columns and the constant are 0
pub record IsBlank (keep : ℕ) (row : Affine) : Type 0 where
  pub coefs : (j : ℕ) → j < keep → entry_of row j ≡ pos 0
  pub last : row.constant ≡ pos 0

-- the row over the first columns in least terms
abbrev pub IsLeast : ℕ → Affine → Affine → Type 0
IsLeast keep row least = IsInLeastTerms keep (entry_of row) row.constant least

-- the rows over the first columns in least terms, without those that are 0 everywhere
pub record AreReduced (keep : ℕ) (live : List Kept) (reduced : List Affine) : Type 0 where
  pub from : All (λ f. (k : Kept) × Contains live k × IsLeast keep k.row f) reduced
  pub into : All (λ k. IsBlank keep k.row ⊎ ((f : Affine) × Contains reduced f × IsLeast keep k.row f)) live
