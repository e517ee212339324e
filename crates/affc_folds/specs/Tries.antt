-- What was found of the bases of an array.
use Rattle.std.specs.Prelude.{◌≡◌, ◌⊎◌, ◌≤◌, ℕ, ℤ, length, true, false, List, Option, Some, None, slice_get}
use Rattle.affc_ast.specs.declared.tree.ArrayId.{ArrayId}
use Rattle.affc_ast.specs.declared.tree.Program.{Program}
use Rattle.affc_ast.specs.Meaning.{arrays_of}
use Rattle.affc_trace.specs.Dataflow.{LivePair}
use Rattle.affc_trace.specs.Laws.{IsInContext}
use Rattle.affc_split.specs.Budgets.{Account}
use Rattle.affc_basis.specs.declared.basis.Basis.{Basis}
use Rattle.affc_basis.specs.declared.fold.Fold.{Fold}
use Rattle.affc_basis.specs.Folds.{forms_of, AreGreatestValues}
use Rattle.affc_basis.specs.Listed.{Shape, shape_of}
use Rattle.affc_quast.specs.Seen.{trees_of}
use Rattle.affc_weigh.specs.declared.choice.Choice.{Choice}
use Rattle.affc_weigh.specs.declared.ratings.Rated.{Rated}
use Rattle.affc_weigh.specs.Choices.{AreNeeds}
use Rattle.affc_folds.specs.declared.asked.Temporary.{Temporary}
use Rattle.affc_folds.specs.Folding.{IsAnalysed, IsFoldFor, HasBound, IsSpent, IsChoice}
use Rattle.affc_folds.specs.Systems.{HavePairs}

-- a fold over a basis of this shape, with its price
pub record IsRated (Answers : List ℕ → ℕ → Type 0) (program : Program) (pairs : ℕ → List ℤ → List ℤ → List ℤ → Type 0) (budget : Account) (array : ℕ) (shape : Shape) (r : Rated) : Type 0 where
  pub its_shape : shape_of r.fold.basis ≡ shape
  pub is_fold : IsFoldFor program pairs array r.fold
  pub values : AreGreatestValues (IsInContext program) (forms_of r.fold.moduli) r.price.values
  pub cost : Answers r.price.values r.price.cost
  pub needed : r.marked ≡ true → AreNeeds (IsInContext program) (pairs array) r.fold.basis.rows r.price.values
  pub unmarked : r.marked ≡ false → HasBound r.fold
  pub bound : HasBound r.fold → IsSpent budget

-- none is found only where no unit is left
abbrev pub IsTried : (Answers : List ℕ → ℕ → Type 0) (program : Program) (pairs : ℕ → List ℤ → List ℤ → List ℤ → Type 0) (budget : Account) (array : ℕ) → Shape → Option Rated → Type 0
IsTried Answers program pairs budget array shape None = IsSpent budget
IsTried Answers program pairs budget array shape (Some r) = IsRated Answers program pairs budget array shape r

-- as many of these as there are, from the first on
abbrev pub AreTried : (Answers : List ℕ → ℕ → Type 0) (program : Program) (pairs : ℕ → List ℤ → List ℤ → List ℤ → Type 0) (budget : Account) (array : ℕ) → List Shape → List (Option Rated) → Type 0
AreTried Answers program pairs budget array shapes found =
    (j : ℕ) (shape : Shape) (one : Option Rated) → slice_get shapes j ≡ Some shape → slice_get found j ≡ Some one → IsTried Answers program pairs budget array shape one

-- the fold of an array, and what is told of it
pub record IsFolded (Answers : List ℕ → ℕ → Type 0) (program : Program) (pairs : ℕ → List ℤ → List ℤ → List ℤ → Type 0) (bases : List (ArrayId × Basis)) (budget : Account) (array : ℕ) (folded : Fold × Choice) : Type 0 where
  pub is_fold : IsFoldFor program pairs array folded.0
  pub is_choice : IsChoice Answers program pairs bases budget array folded.0 folded.1
  pub bound : HasBound folded.0 → IsSpent budget

-- the first fold, or one that was found and that costs as much, where the price of the basis isn't missing
abbrev pub IsEither : (fold : Fold) → Choice → Option Rated → (taken : Fold) → Type 0
IsEither fold choice one taken =
    (taken ≡ fold) ⊎ ((r : Rated) × (one ≡ Some r) × (taken ≡ r.fold) × (r.price.cost ≡ choice.cost) × (slice_get choice.prices choice.number ≡ Some None → ⊥))

-- what was found, or nothing where it has a bound alone
abbrev pub IsWorth : Rated → Option Rated → Type 0
IsWorth one None = one.marked ≡ false
IsWorth one (Some r) = r ≡ one

-- ---- Of one temporary

-- one of the temporaries of a program with its analysis, and systems whose pairs are its live pairs
pub record IsTemporary (of : Temporary) : Type 0 where
  pub analysed : IsAnalysed of.asked.program.now of.asked.nest.now (trees_of of.asked.flow.now) of.asked.schedule.now
  pub there : slice_get of.asked.nest.now.arrays of.array.0 ≡ Some of.info.now
  pub temporary : length (arrays_of of.asked.program.now.params) ≤ of.array.0
  pub live : HavePairs of.asked.program.now (LivePair of.asked.program.now of.asked.schedule.now) of.asked.nest.now of.array.0 of.info.now.extents of.systems.now

abbrev pub IsTriedFor : (Answers : List ℕ → ℕ → Type 0) → Temporary → Account → Shape → Option Rated → Type 0
IsTriedFor Answers of budget = IsTried Answers of.asked.program.now (LivePair of.asked.program.now of.asked.schedule.now) budget of.array.0

abbrev pub AreTriedFor : (Answers : List ℕ → ℕ → Type 0) → Temporary → Account → List Shape → List (Option Rated) → Type 0
AreTriedFor Answers of budget = AreTried Answers of.asked.program.now (LivePair of.asked.program.now of.asked.schedule.now) budget of.array.0

abbrev pub IsFoldedFor : (Answers : List ℕ → ℕ → Type 0) → Temporary → Account → Fold × Choice → Type 0
IsFoldedFor Answers of budget = IsFolded Answers of.asked.program.now (LivePair of.asked.program.now of.asked.schedule.now) of.asked.bases.now budget of.array.0
