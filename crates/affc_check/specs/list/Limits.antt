-- Items whose questions pass the limits of a system, and the first of a list.
use Rattle.std.specs.Prelude.{◌≡◌, ℕ, ◌<◌, List, Some, slice_get}
use Rattle.affc_system.specs.Systems.{Rows}
use Rattle.affc_trace.specs.Law.{IsIn}
use Rattle.affc_products.specs.Parts.{IsWithin}
use Rattle.affc_check.specs.list.Items.{Item, Question}

-- a question among these items isn't within the limits of a system
pub record AnyPasses (items : List Item) : Type 0 where
  pub question : Rows
  pub there : IsIn (Question question) items
  pub passes : ¬ (IsWithin question)

-- the first of a list of which this holds has this number, from 0
pub record IsFirst {A : Type 0} (P : A → Type 0) (xs : List A) (number : ℕ) : Type 0 where
  pub item : A
  pub there : slice_get xs number ≡ Some item
  pub holds : P item
  pub before : (k : ℕ) (x : A) → k < number → slice_get xs k ≡ Some x → ¬ (P x)

-- it holds of none
pub record HoldsOfNone {A : Type 0} (P : A → Type 0) (xs : List A) : Type 0 where
  pub none : (k : ℕ) (x : A) → slice_get xs k ≡ Some x → ¬ (P x)
