-- How far the items of a certificate are looked at.
use Rattle.std.specs.Prelude.{◌≡◌, ℕ, ◌+◌, List, ◌++◌, length, flat_map}
use Rattle.affc_trace.specs.declared.schedule.Schedule.{Schedule}
use Rattle.affc_farkas.specs.declared.proof.Proof.{Proof}
use Rattle.affc_nest.specs.declared.nest.Nest.{Nest}
use Rattle.affc_quast.specs.Trees.{Tree}
use Rattle.affc_cert.specs.declared.cert.Cert.{Cert}
use Rattle.affc_certvalue.specs.declared.fold.fold.CertFold.{CertFold}
use Rattle.affc_check.specs.list.Certs.{IsFoldSaid, AreFoldsSaid, AreItems}
use Rattle.affc_check.specs.list.Items.{Item, FoldShown, fold_items}
use Rattle.affc_check.specs.list.Limits.{AnyPasses, HoldsOfNone}
use Rattle.affc_check.specs.list.Passes.{FoldPasses, NonePasses}
use Rattle.affc_check.specs.Answers.{FailsAtQuestion, FailsAtPoint}
use Rattle.affc_check.specs.Steps.{Leaves}
use Rattle.affc_check.specs.Valid.{AreValid, questions_among}
use Rattle.affc_check.specs.declared.checks.Looked.{Looked}
use Rattle.affc_check.specs.declared.checks.Looked.TheVariants.{Holding, Unproved, Unmet}

-- so far are these items looked at with these proofs
abbrev pub Stands : Looked → List Item → List Proof → Type 0
Stands (Holding rest number) is proofs = Leaves is proofs rest.now × (number ≡ length is)
Stands (Unproved number) is proofs = FailsAtQuestion is proofs number
Stands (Unmet number) is proofs = FailsAtPoint is proofs number

-- the items are looked at behind any that are looked at so far
abbrev pub Looks : (old new : Looked) → List Item → Type 0
Looks old new items = (before : List Item) (proofs : List Proof) → Stands old before proofs → Stands new (before ++ items) proofs

-- the same, behind so many that hold and leave these proofs
abbrev pub LooksOn : (rest : List Proof) (number : ℕ) → Looked → List Item → Type 0
LooksOn rest number new items = (before : List Item) (proofs : List Proof) → Leaves before proofs rest → number ≡ length before → Stands new (before ++ items) proofs

-- what this says of all items that are looked at so far: that they are valid, with so many proofs behind the last question's, or that
-- this is the first of them that fails
abbrev pub IsAllValid : Looked → (spare : ℕ) → Type 0
IsAllValid looked spare = (is : List Item) (proofs : List Proof) → Stands looked is proofs → AreValid is proofs × (length proofs ≡ questions_among is + spare)

abbrev pub QuestionFails : Looked → ℕ → Type 0
QuestionFails looked n = (is : List Item) (proofs : List Proof) → Stands looked is proofs → FailsAtQuestion is proofs n

abbrev pub PointFails : Looked → ℕ → Type 0
PointFails looked n = (is : List Item) (proofs : List Proof) → Stands looked is proofs → FailsAtPoint is proofs n

-- ---- Items within the limits

-- the items are looked at, and no question of them passes the limits
pub record AreLooked (old new : Looked) (items : List Item) : Type 0 where
  pub looks : Looks old new items
  pub within : ¬ (AnyPasses items)

-- the same of lists of items, one for each part
pub record PartsLooked (old new : Looked) (parts : List (List Item)) : Type 0 where
  pub looks : Looks old new (flat_map (λ items. items) parts)
  pub within : HoldsOfNone AnyPasses parts

-- the items of a fold are looked at, and it doesn't pass the limits
pub record FoldLooked (nest : Nest) (schedule : Schedule) (trees : List Tree) (c : CertFold) (old new : Looked) : Type 0 where
  pub fold : FoldShown
  pub said : IsFoldSaid nest schedule trees c fold
  pub looks : Looks old new (fold_items nest fold)
  pub within : ¬ (FoldPasses nest schedule trees c)

-- the same of folds
pub record FoldsLooked (nest : Nest) (schedule : Schedule) (trees : List Tree) (cs : List CertFold) (old new : Looked) : Type 0 where
  pub folds : List FoldShown
  pub said : AreFoldsSaid nest schedule trees cs folds
  pub looks : Looks old new (flat_map (fold_items nest) folds)
  pub within : HoldsOfNone (FoldPasses nest schedule trees) cs

-- all items of a certificate are looked at, and no part of it passes the limits
pub record AllLooked (nest : Nest) (schedule : Schedule) (c : Cert) (looked : Looked) : Type 0 where
  pub items : List Item
  pub are : AreItems nest schedule c items
  pub within : NonePasses nest schedule c
  pub stands : Stands looked items c.proofs
