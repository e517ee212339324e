-- Folds of the temporaries of a program, for the pairs of elements that are to be kept apart: those that are live together under a
-- schedule, or others.
use Rattle.std.specs.Prelude.{◌≡◌, ℕ, ◌+◌, ◌<◌, ◌≤◌, ℤ, IsTrue, List, [], length, map, Option, Some, None, slice_get}
use Rattle.std.specs.List.{All}
use Rattle.affc_rows.specs.Forms.{Affine}
use Rattle.affc_ast.specs.declared.tree.ArrayId.{ArrayId}
use Rattle.affc_ast.specs.declared.tree.Decl.{Decl}
use Rattle.affc_ast.specs.declared.tree.Program.{Program}
use Rattle.affc_ast.specs.Meaning.{arrays_of}
use Rattle.affc_trace.specs.declared.schedule.Schedule.{Schedule}
use Rattle.affc_trace.specs.Law.{IsIn}
use Rattle.affc_trace.specs.Laws.{IsInContext}
use Rattle.affc_trace.specs.Orders.{AreDistinct}
use Rattle.affc_trace.specs.Target.{IsScheduleOf, within_limits, numbers_in}
use Rattle.affc_split.specs.Budgets.{Account}
use Rattle.affc_basis.specs.declared.basis.Basis.{Basis}
use Rattle.affc_basis.specs.declared.fold.Fold.{Fold}
use Rattle.affc_basis.specs.declared.fold.Mark.TheVariants.{Bound}
use Rattle.affc_basis.specs.declared.fold.Modulus.{Modulus}
use Rattle.affc_basis.specs.FoldLists.{AreFoldsIn}
use Rattle.affc_basis.specs.Folds.{KeepsLimits, Obeys, fold_of}
use Rattle.affc_basis.specs.Listed.{Shape, shape_of, listing}
use Rattle.affc_weigh.specs.declared.choice.Choice.{Choice}
use Rattle.affc_weigh.specs.declared.choice.Price.{Price}
use Rattle.affc_weigh.specs.Choices.{choice_of, AreNeeds}
use Rattle.affc_weigh.specs.Laws.{IsStoredCost}
use Rattle.affc_nest.specs.declared.nest.Nest.{Nest}
use Rattle.affc_nest.specs.Laws.{HasNest, NamesArrays, StaysWithin}
use Rattle.affc_nest.specs.Nests.{nest_of}
use Rattle.affc_quast.specs.Sources.{NameSources, HaveNearQuotients}
use Rattle.affc_quast.specs.Trees.{Tree}
use Rattle.affc_life.specs.Laws.{AreFound}
pub use Rattle.affc_life.specs.Folding.{given_for, HasTrueMarks, IsFoldFor}
pub use Rattle.affc_moduli.specs.Ended.{IsSpent}

-- ---- What is known of a program before it is folded

-- It has this nest, and the schedule is one of it within the limits. Some p is in its context. Throughout the context each
-- access lies within its array, and the trees, as the search gives them, name the sources of all loads.
pub record IsAnalysed (program : Program) (nest : Nest) (trees : List Tree) (schedule : Schedule) : Type 0 where
  pub has : HasNest program
  pub named : NamesArrays program
  pub is : nest ≡ nest_of program
  pub fits : IsScheduleOf program schedule
  pub slight : IsTrue (within_limits schedule)
  pub found : AreFound nest trees
  pub some : (p : List ℤ) × IsInContext program p
  pub stays : (p : List ℤ) → IsInContext program p → StaysWithin program p
  pub sources : (p : List ℤ) → IsInContext program p → NameSources program p nest trees
  pub near : (p : List ℤ) → IsInContext program p → HaveNearQuotients program p nest trees

-- ---- Folds

-- one of the moduli is marked as a bound alone
pub record HasBound (fold : Fold) : Type 0 where
  pub number : ℕ
  pub modulus : Modulus
  pub there : slice_get fold.moduli number ≡ Some modulus
  pub marked : modulus.mark ≡ Bound

-- ---- What bases come to

-- A basis with these rows comes to the needs of its rows, and to what the stored cost answers to these. Its price is missing only
-- where no unit of the budget is left.
abbrev pub IsPrice : (Answers : List ℕ → ℕ → Type 0) (program : Program) (pairs : ℕ → List ℤ → List ℤ → List ℤ → Type 0) (budget : Account) (array : ℕ) (rows : List Affine) → Option Price → Type 0
IsPrice Answers program pairs budget array rows None = IsSpent budget
IsPrice Answers program pairs budget array rows (Some price) =
    AreNeeds (IsInContext program) (pairs array) rows price.values × Answers price.values price.cost

-- Each of these bases comes to its price.
pub record ArePrices (Answers : List ℕ → ℕ → Type 0) (program : Program) (pairs : ℕ → List ℤ → List ℤ → List ℤ → Type 0) (budget : Account) (array : ℕ) (shapes : List Shape) (prices : List (Option Price)) : Type 0 where
  pub one_each : length prices ≡ length shapes
  pub each : (j : ℕ) (shape : Shape) (price : Option Price) → slice_get shapes j ≡ Some shape → slice_get prices j ≡ Some price
      → IsPrice Answers program pairs budget array shape.rows price

-- None of these prices is below the cost, and none before the number-th is as low. The number-th is missing only where the
-- fold, whose price it would be, has a bound alone.
pub record IsLowest (fold : Fold) (number cost : ℕ) (prices : List (Option Price)) : Type 0 where
  pub least : (j : ℕ) (price : Price) → slice_get prices j ≡ Some (Some price) → cost ≤ price.cost
  pub first : (j : ℕ) (price : Price) → j < number → slice_get prices j ≡ Some (Some price) → cost < price.cost
  pub own : slice_get prices number ≡ Some None → HasBound fold

-- The fold has the first of the listed bases that cost least.
pub record IsCheapest (Answers : List ℕ → ℕ → Type 0) (program : Program) (pairs : ℕ → List ℤ → List ℤ → List ℤ → Type 0) (budget : Account) (array : ℕ) (fold : Fold) (choice : Choice) : Type 0 where
  pub listed : slice_get (listing (length fold.basis.rows)) choice.number ≡ Some (shape_of fold.basis)
  pub prices : ArePrices Answers program pairs budget array (listing (length fold.basis.rows)) choice.prices
  pub lowest : IsLowest fold choice.number choice.cost choice.prices

-- the fold has the basis that is given, and there is no other; where none is given it has the cheapest
abbrev pub IsTaken : (given : Option Shape) (Answers : List ℕ → ℕ → Type 0) (program : Program) (pairs : ℕ → List ℤ → List ℤ → List ℤ → Type 0) (budget : Account) (array : ℕ) (fold : Fold) (choice : Choice) → Type 0
IsTaken (Some shape) Answers program pairs budget array fold choice = (shape_of fold.basis ≡ shape) × (choice.prices ≡ [])
IsTaken None Answers program pairs budget array fold choice = IsCheapest Answers program pairs budget array fold choice

-- What is told of a fold: what the stored cost answers to the greatest values of its moduli, and why it has its basis.
pub record IsChoice (Answers : List ℕ → ℕ → Type 0) (program : Program) (pairs : ℕ → List ℤ → List ℤ → List ℤ → Type 0) (bases : List (ArrayId × Basis)) (budget : Account) (array : ℕ) (fold : Fold) (choice : Choice) : Type 0 where
  pub cost : IsStoredCost Answers (IsInContext program) fold choice.cost
  pub taken : IsTaken (given_for bases array (length fold.basis.rows)) Answers program pairs budget array fold choice

-- among these choices
pub record HasChoice (Answers : List ℕ → ℕ → Type 0) (program : Program) (pairs : ℕ → List ℤ → List ℤ → List ℤ → Type 0) (bases : List (ArrayId × Basis)) (budget : Account) (choices : List (ArrayId × Choice)) (array : ℕ) (fold : Fold) : Type 0 where
  pub choice : Choice
  pub found : choice_of choices array ≡ Some choice
  pub is : IsChoice Answers program pairs bases budget array fold choice

-- ---- All folds

-- Folds of the temporaries before array n, one for each, in their order, with a choice for each; one is missing only where no unit
-- is left.
pub record AreFoldsBelow (Answers : List ℕ → ℕ → Type 0) (program : Program) (pairs : ℕ → List ℤ → List ℤ → List ℤ → Type 0) (bases : List (ArrayId × Basis)) (budget : Account) (n : ℕ) (folds : List (ArrayId × Fold)) (choices : List (ArrayId × Choice)) : Type 0 where
  pub different : AreDistinct (map (λ (f : ArrayId × Fold). f.0.0) folds)
  pub below : (array : ArrayId) (fold : Fold) → IsIn (array, fold) folds → array.0 < n
  pub each : (array : ArrayId) (fold : Fold) → IsIn (array, fold) folds → IsFoldFor program pairs array.0 fold
  pub bound : (array : ArrayId) (fold : Fold) → IsIn (array, fold) folds → HasBound fold → IsSpent budget
  pub chosen : (array : ArrayId) (fold : Fold) → IsIn (array, fold) folds → HasChoice Answers program pairs bases budget choices array.0 fold
  pub not_yet : (array : ℕ) → n ≤ array → choice_of choices array ≡ None
  pub whole : (array : ℕ) → length (arrays_of program.params) ≤ array → array < n → fold_of folds array ≡ None → IsSpent budget

-- this temporary has no fold
pub record IsLeftWhole (program : Program) (folds : List (ArrayId × Fold)) : Type 0 where
  pub number : ℕ
  pub decl : Decl
  pub stands : slice_get program.temps number ≡ Some decl
  pub unfolded : fold_of folds (length (arrays_of program.params) + number) ≡ None

-- Folds of a program's temporaries, over the bases that are given or else the cheapest that are listed, with moduli within the
-- limits. Throughout the context each keeps the elements of each pair of its array apart, and what its marks say is true; of each
-- is told what it costs, and what other bases would. A temporary without a fold, and a modulus that is marked as a bound alone,
-- come only where no unit of the budget is left.
pub record AreFoldsUnder (Answers : List ℕ → ℕ → Type 0) (program : Program) (pairs : ℕ → List ℤ → List ℤ → List ℤ → Type 0) (bases : List (ArrayId × Basis)) (budget : Account) (folds : List (ArrayId × Fold)) (choices : List (ArrayId × Choice)) : Type 0 where
  pub in_program : AreFoldsIn program folds
  pub limits : All (λ (f : ArrayId × Fold). KeepsLimits (numbers_in program.params) f.1) folds
  pub obeys : (p : List ℤ) → IsInContext program p → (array : ℕ) (fold : Fold) → fold_of folds array ≡ Some fold → Obeys (pairs array p) fold p
  pub marks : (array : ℕ) (fold : Fold) → fold_of folds array ≡ Some fold → HasTrueMarks (IsInContext program) (pairs array) fold
  pub chosen : (array : ℕ) (fold : Fold) → fold_of folds array ≡ Some fold → HasChoice Answers program pairs bases budget choices array fold
  pub bound : (array : ℕ) (fold : Fold) → fold_of folds array ≡ Some fold → HasBound fold → IsSpent budget
  pub whole : IsLeftWhole program folds → IsSpent budget
