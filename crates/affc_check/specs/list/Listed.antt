-- Items as the code lists them, part by part.
use Rattle.std.specs.Prelude.{◌≡◌, ℕ, ◌+◌, List, ◌++◌, flat_map}
use Rattle.affc_check.specs.list.Items.{Item}
use Rattle.affc_check.specs.list.Limits.{AnyPasses, IsFirst, HoldsOfNone}

-- these items are put behind, and no question of them passes the limits
pub record AreListed (old new items : List Item) : Type 0 where
  pub put : new ≡ old ++ items
  pub within : ¬ (AnyPasses items)

-- the same of lists of items, one for each part
pub record PartsListed (old new : List Item) (parts : List (List Item)) : Type 0 where
  pub put : new ≡ old ++ flat_map (λ items. items) parts
  pub within : HoldsOfNone AnyPasses parts

-- the first part of which this holds, where they are numbered from this number on
pub record IsFirstPart {A : Type 0} (P : A → Type 0) (first : ℕ) (parts : List A) (part : ℕ) : Type 0 where
  pub number : ℕ
  pub is : part ≡ first + number
  pub holds : IsFirst P parts number
