-- The state of an elimination: the rows that are kept so far, and the pairs that were made.
use Rattle.std.specs.Prelude.{◌≡◌, ◌≢◌, ◌⊎◌, ℕ, ◌+◌, ◌*◌, ◌<◌, ◌≤◌, Bool, List, [], ◌∷◌, ◌++◌, length, slice_index_or, ℤ, pos, ◌≤ℤ◌, ◌<ℤ◌}
use Rattle.std.specs.List.{All, Contains}
use Rattle.affc_rows.specs.Forms.{Affine, HaveColumns}
use Rattle.affc_farkas.specs.Multiples.{entry_of}
use Rattle.affc_farkas.specs.Rational.{scaled_value}
use Rattle.affc_farkas.specs.declared.pair.Pair.{Pair}
use Rattle.affc_eliminate.specs.Points.{HoldAt, IsTrivial}
use Rattle.affc_rows.specs.Vocabulary as forms
use Rattle.affc_eliminate.specs.Mixtures.{forms_of}
use Rattle.affc_eliminate.specs.Steps.{AddEach, IsTooWide}
use Rattle.affc_eliminate.specs.Sieves.{AreApart}
use Rattle.affc_eliminate.specs.declared.kept.Kept.{Kept}
use Rattle.affc_eliminate.specs.declared.work.Work.{Work}
use Rattle.affc_eliminate.specs.declared.work.Stop.{Stop}
use Rattle.affc_eliminate.specs.declared.work.Stop.TheVariants.{Memory, TooWide}

-- the row stands at this place
abbrev pub IsAt : List Kept → ℕ → Kept → Type 0
IsAt rows i k = (i < length rows) × (slice_index_or rows i k ≡ k)

-- ... and is positive in the column
abbrev pub IsPositiveAt : List Kept → ℕ → ℕ → Type 0
IsPositiveAt rows column i = (k : Kept) → IsAt rows i k → pos 0 <ℤ entry_of k.row column

-- wherever the kept rows hold, the row holds
abbrev pub IsCovered : List Kept → List Kept → Affine → Type 0
IsCovered rows kept row = (x : List ℤ) (d : ℤ) → HaveColumns (length x) (forms_of rows) → pos 1 ≤ℤ d → HoldAt x d (forms_of kept) → pos 0 ≤ℤ scaled_value row x d

-- the pair of two rows
abbrev pub pair_of : ℕ → Kept → Kept → Pair
pair_of column first second = record { first = first.number; second = second.number; column = column }

-- rows that are kept of those that pairs add and of those that are 0 in the column
pub record IsWork (Answers : Affine → Affine → Bool → Type 0) (rows : List Kept) (column free : ℕ) (kept : List Kept) (made : List Pair) : Type 0 where
  pub added : List Kept
  pub add_each : AddEach rows column free made added
  pub named : All (λ k. All (λ p. p.0 < 1024) k.from) added
  pub covered : All (λ k. IsCovered rows kept k.row) added
  pub from : All (λ k. (Contains rows k × (entry_of k.row column ≡ pos 0)) ⊎ Contains added k) kept
  pub apart : AreApart Answers kept
  pub not_trivial : All (λ k. IsTrivial k.row → ⊥) kept

-- of the rows before a place those that are 0 in the column are done
pub record AreFlatDone (rows : List Kept) (column free through : ℕ) (kept : List Kept) : Type 0 where
  pub covered : (a : ℕ) (f : Kept) → a < through → IsAt rows a f → entry_of f.row column ≡ pos 0 → IsCovered rows kept f.row
  pub earlier : All (λ q. (free ≤ q.number) ⊎ ((a : ℕ) × (a < through) × IsAt rows a q)) kept

-- the state with one pair more
pub record IsGrown (Answers : Affine → Affine → Bool → Type 0) (rows : List Kept) (column free : ℕ) (first second : Kept) (old new : Work) : Type 0 where
  pub work : IsWork Answers rows column free new.kept.items new.made.items
  pub flats : (k : ℕ) → AreFlatDone rows column free k old.kept.items → AreFlatDone rows column free k new.kept.items
  pub made : new.made.items ≡ old.made.items ++ pair_of column first second ∷ []
  pub few : length new.kept.items ≤ length old.kept.items + 1

-- why an elimination ends early
abbrev pub IsStop : List Kept → ℕ → ℕ → Stop → Type 0
IsStop rows column free Memory = Unit {0}
IsStop rows column free (TooWide made next) = IsTooWide rows column free made.items next

-- ---- Each positive row with each negative one

-- the place a, b comes before i, j
abbrev pub IsBefore : ℕ → ℕ → ℕ → ℕ → Type 0
IsBefore a b i j = (a < i) ⊎ ((a ≡ i) × (b < j))

-- the pairs of the rows at earlier places
pub record ArePairs (rows : List Kept) (column i j : ℕ) (made : List Pair) : Type 0 where
  pub all : (a b : ℕ) (f g : Kept) → IsBefore a b i j → IsAt rows a f → IsAt rows b g → pos 0 <ℤ entry_of f.row column → entry_of g.row column <ℤ pos 0 → Contains made (pair_of column f g)
  pub earlier : All (λ q. (a b : ℕ) × (f g : Kept) × IsBefore a b i j × IsAt rows a f × IsAt rows b g × (q ≡ pair_of column f g)) made
  pub few : length made ≤ i * 8192 + j

pub record IsCrossing (Answers : Affine → Affine → Bool → Type 0) (rows : List Kept) (column free i j : ℕ) (state : Work) : Type 0 where
  pub work : IsWork Answers rows column free state.kept.items state.made.items
  pub flats : AreFlatDone rows column free i state.kept.items
  pub pairs : ArePairs rows column i j state.made.items

-- ---- Each row with one of two opposite ones

-- the row at place p is positive in the column, and the one at place n is its opposite
pub record AreOpposite (rows : List Kept) (column p n : ℕ) : Type 0 where
  pub first : Kept
  pub second : Kept
  pub first_at : IsAt rows p first
  pub second_at : IsAt rows n second
  pub positive : pos 0 <ℤ entry_of first.row column
  pub opposite : second.row ≡ forms.opposite first.row

-- the pair of the row at a place with one of the two
pub record IsReplaced (rows : List Kept) (column p n through : ℕ) (q : Pair) : Type 0 where
  pub place : ℕ
  pub row : Kept
  pub first : Kept
  pub second : Kept
  pub below : place < through
  pub not_first : place ≢ p
  pub not_second : place ≢ n
  pub at : IsAt rows place row
  pub first_at : IsAt rows p first
  pub second_at : IsAt rows n second
  pub is : (q ≡ pair_of column row second) ⊎ (q ≡ pair_of column first row)

-- the pairs of the rows before a place
pub record AreReplaced (rows : List Kept) (column p n through : ℕ) (made : List Pair) : Type 0 where
  pub positive : (a : ℕ) (f second : Kept) → a < through → a ≢ p → a ≢ n → IsAt rows a f → IsAt rows n second → pos 0 <ℤ entry_of f.row column → Contains made (pair_of column f second)
  pub negative : (a : ℕ) (g first : Kept) → a < through → a ≢ p → a ≢ n → IsAt rows a g → IsAt rows p first → entry_of g.row column <ℤ pos 0 → Contains made (pair_of column first g)
  pub earlier : All (IsReplaced rows column p n through) made
  pub few : length made ≤ through

pub record IsReplacing (Answers : Affine → Affine → Bool → Type 0) (rows : List Kept) (column free p n through : ℕ) (state : Work) : Type 0 where
  pub work : IsWork Answers rows column free state.kept.items state.made.items
  pub flats : AreFlatDone rows column free through state.kept.items
  pub pairs : AreReplaced rows column p n through state.made.items
  pub few : length state.kept.items ≤ through
