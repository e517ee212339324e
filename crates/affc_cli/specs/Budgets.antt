-- What is made of a source within a budget, by the cost of this name.
use Rattle.std.specs.Prelude.{◌≡◌, ℕ, List, Option, Some, None}
use Rattle.affc_split.specs.Budgets.{Account}
use Rattle.affc_weigh.specs.Costs.{Gives, words_cost, sum_cost, powers_cost}
use Rattle.affc_driver.specs.Accounts.{FoldsAtCost, FoldsCertified, FoldsMade}
use Rattle.affc_driver.specs.declared.folding.Made.{Made}
use Rattle.affc_driver.specs.declared.wanted.Wanted.{Wanted}
use Rattle.affc_driver.specs.declared.wanted.Wanted.TheVariants.{Text, Certificate}
use Rattle.affc_words.specs.declared.words.CostName.{CostName}
use Rattle.affc_words.specs.declared.words.CostName.TheVariants.{Words, Sum, Powers}
use Rattle.affc_words.specs.declared.words.Settings.{Settings}

-- what a cost answers to a list of moduli
abbrev pub answers_of : CostName → List ℕ → ℕ → Type 0
answers_of Words = Gives words_cost
answers_of Sum = Gives sum_cost
answers_of Powers = Gives powers_cost

-- Text and report are made of the source and the schedule by the settings' cost, so much may be spent, where that is limited, and
-- the folds cost so much together.
pub record FoldsWithin (source : List ℕ) (schedule : Option (List ℕ)) (settings : Settings) (text report : List ℕ) (cost : ℕ) : Type 0 where
  pub left : Account
  pub limit : left.limit ≡ settings.budget
  pub folds_to : FoldsAtCost (answers_of settings.cost) source schedule left text report cost

-- They are made so, and this is a certificate of the folds.
pub record CertifiedWithin (source : List ℕ) (schedule : Option (List ℕ)) (settings : Settings) (certificate text report : List ℕ) : Type 0 where
  pub left : Account
  pub limit : left.limit ≡ settings.budget
  pub folds_to : FoldsCertified (answers_of settings.cost) source schedule left text report certificate

-- a certificate is wanted where a file is named for it
abbrev pub wanted_for : (file : Option (List ℕ)) → Wanted
wanted_for None = Text
wanted_for (Some file) = Certificate

-- All this is made so, with a certificate where one is wanted.
pub record MadeWithin (source : List ℕ) (schedule : Option (List ℕ)) (settings : Settings) (wanted : Wanted) (made : Made) : Type 0 where
  pub left : Account
  pub limit : left.limit ≡ settings.budget
  pub folds : FoldsMade (answers_of settings.cost) source schedule left wanted made

-- They are made so at some cost, with a certificate where a file is named for it.
abbrev pub FoldMakes : (file : Option (List ℕ)) → (source : List ℕ) → (schedule : Option (List ℕ)) → (settings : Settings) → (certificate text report : List ℕ) → Type 0
FoldMakes None source schedule settings certificate text report = (cost : ℕ) × FoldsWithin source schedule settings text report cost
FoldMakes (Some file) source schedule settings certificate text report = CertifiedWithin source schedule settings certificate text report
