-- What is known of a basis that was chosen.
use Rattle.std.specs.Prelude.{◌≡◌, ◌≢◌, ℕ, ◌≤◌, ℤ, List, length, Some, None, slice_get}
use Rattle.affc_ast.specs.declared.tree.ArrayId.{ArrayId}
use Rattle.affc_ast.specs.declared.tree.Program.{Program}
use Rattle.affc_trace.specs.declared.schedule.Schedule.{Schedule}
use Rattle.affc_trace.specs.Dataflow.{LivePair}
use Rattle.affc_trace.specs.Laws.{IsInContext}
use Rattle.affc_trace.specs.Target.{numbers_in}
use Rattle.affc_domain.specs.Plain.{IsPlain}
use Rattle.affc_split.specs.Budgets.{Account}
use Rattle.affc_basis.specs.declared.basis.Basis.{Basis}
use Rattle.affc_basis.specs.declared.fold.Fold.{Fold}
use Rattle.affc_basis.specs.Folds.{KeepsLimits, Obeys}
use Rattle.affc_basis.specs.Listed.{shape_of, listing}
use Rattle.affc_weigh.specs.declared.choice.Choice.{Choice}
use Rattle.affc_weigh.specs.Costs.{AreModuli, NeverFalls, Gives}
use Rattle.affc_weigh.specs.Laws.{IsStoredCost}
use Rattle.affc_nest.specs.Laws.{HasNest, StaysWithin}
use Rattle.affc_folds.specs.Folding.{given_for, HasBound, IsChoice, AreFoldsUnder}

-- a fold for the array over a listed basis of so many dimensions: within the limits, and large enough throughout the context
pub record IsListedFold (program : Program) (pairs : ℕ → List ℤ → List ℤ → List ℤ → Type 0) (array dimensions : ℕ) (other : Fold) : Type 0 where
  pub number : ℕ
  pub listed : slice_get (listing dimensions) number ≡ Some (shape_of other.basis)
  pub limits : KeepsLimits (numbers_in program.params) other
  pub obeys : (p : List ℤ) → IsInContext program p → Obeys (pairs array p) other p

-- all moduli of the fold are marked, and no price of another basis is missing
pub record IsSettled (fold : Fold) (choice : Choice) : Type 0 where
  pub marked : ¬ (HasBound fold)
  pub rivals : (j : ℕ) → j ≢ choice.number → slice_get choice.prices j ≢ Some None

-- Where no basis is given for an array and its choice is settled, no large enough fold over a listed basis costs less.
abbrev pub NoneCostsLess : (Answers : List ℕ → ℕ → Type 0) (pairs : ℕ → List ℤ → List ℤ → List ℤ → Type 0) → Type 0
NoneCostsLess Answers pairs = (program : Program) (bases : List (ArrayId × Basis)) (budget : Account) (array : ℕ) (fold : Fold) (choice : Choice)
    → IsPlain program → NeverFalls Answers → IsChoice Answers program pairs bases budget array fold choice
    → given_for bases array (length fold.basis.rows) ≡ None → IsSettled fold choice
    → (other : Fold) (cost : ℕ) → IsListedFold program pairs array (length fold.basis.rows) other
    → IsStoredCost Answers (IsInContext program) other cost → choice.cost ≤ cost

-- ---- Where nothing is limited

-- to each list of moduli something is answered
abbrev pub AnswersModuli : (Answers : List ℕ → ℕ → Type 0) → Type 0
AnswersModuli Answers = (moduli : List ℕ) → AreModuli moduli → (cost : ℕ) × Answers moduli cost

-- as each stored function does
abbrev pub StoredAnswers : Type 0
StoredAnswers = (stored : List ℕ → ℕ) → AnswersModuli (Gives stored)

-- Each temporary of a program that keeps to its arrays, and that has some p in its context, has a fold for what a schedule makes live
-- together: along the basis that is given for it, or else the cheapest that is listed, with the least moduli and their marks, and with the
-- prices of all that are listed. Whatever is left of a budget: nothing is left out.
abbrev pub FoldsExist : (Answers : List ℕ → ℕ → Type 0) → Type 0
FoldsExist Answers = (program : Program) (schedule : Schedule) (bases : List (ArrayId × Basis))
    → HasNest program → ((p : List ℤ) × IsInContext program p) → ((p : List ℤ) → IsInContext program p → StaysWithin program p) → AnswersModuli Answers
    → (folds : List (ArrayId × Fold)) × ((choices : List (ArrayId × Choice)) × ((budget : Account) → AreFoldsUnder Answers program (LivePair program schedule) bases budget folds choices))
