-- What is spent of a budget. A budget of at least the threshold counts as none.
use Rattle.std.specs.Prelude.{◌≡◌, ◌⊎◌, ℕ, ◌<◌, nat_le, Bool, true, false, if◌then◌else◌, List, Option, Some, None, option_map}
use Rattle.affc_ast.specs.declared.tree.Program.{Program}
use Rattle.affc_trace.specs.declared.schedule.Schedule.{Schedule}
use Rattle.affc_domain.specs.Ranges.{first_wide}
use Rattle.affc_split.specs.Budgets.{Account}
use Rattle.affc_nest.specs.Nests.{nest_of}
use Rattle.affc_bounds.specs.threshold.Thresholds.{threshold}
use Rattle.affc_certify.specs.Certified.{IsCertified}
use Rattle.affc_driver.specs.Certificates.{HasCertificate}
use Rattle.affc_driver.specs.Costs.{total_cost}
use Rattle.affc_driver.specs.Folds.{FoldsTo}
use Rattle.affc_driver.specs.Refusals.{IsPlanned}
use Rattle.affc_driver.specs.declared.folding.Made.{Made}
use Rattle.affc_driver.specs.declared.wanted.Wanted.{Wanted}

-- of which nothing is counted
abbrev pub free : Account
free = record { limit = None; spent = 0 }

-- whether the limit is at least the threshold
abbrev pub reaches : Option ℕ → (threshold : ℕ) → Bool
reaches None n = false
reaches (Some l) n = nat_le n l

abbrev pub is_plenty : Program → Schedule → Option ℕ → Bool
is_plenty program schedule limit = reaches limit (threshold (nest_of program) schedule)

-- there is none, or it is
abbrev pub IsUnlimited : Program → Schedule → Option ℕ → Type 0
IsUnlimited program schedule limit = (limit ≡ None) ⊎ (is_plenty program schedule limit ≡ true)

-- The text is made of the source within a budget of which this is left. Where it is plenty, nothing is counted.
pub record FoldsWith (Answers : List ℕ → ℕ → Type 0) (source : List ℕ) (schedule : Option (List ℕ)) (left : Account) (text report : List ℕ) : Type 0 where
  pub account : Account
  pub folds_to : FoldsTo Answers source schedule account text report
  pub counted : account ≡ (if is_plenty folds_to.compiles.source folds_to.plan.schedule left.limit then free else left)

-- the same, and this is what the folds cost together
pub record FoldsAtCost (Answers : List ℕ → ℕ → Type 0) (source : List ℕ) (schedule : Option (List ℕ)) (left : Account) (text report : List ℕ) (cost : ℕ) : Type 0 where
  pub folds_with : FoldsWith Answers source schedule left text report
  pub total : cost ≡ total_cost folds_with.folds_to.folds folds_with.folds_to.choices

-- the same, and this is a certificate of the folds, for the plan
pub record FoldsCertified (Answers : List ℕ → ℕ → Type 0) (source : List ℕ) (schedule : Option (List ℕ)) (left : Account) (text report certificate : List ℕ) : Type 0 where
  pub folds_with : FoldsWith Answers source schedule left text report
  pub certified : IsCertified (nest_of folds_with.folds_to.compiles.source) folds_with.folds_to.plan certificate folds_with.folds_to.folds

-- the same of all that is made, with a certificate where one is wanted
pub record FoldsMade (Answers : List ℕ → ℕ → Type 0) (source : List ℕ) (schedule : Option (List ℕ)) (left : Account) (wanted : Wanted) (made : Made) : Type 0 where
  pub at_cost : FoldsAtCost Answers source schedule left made.done.text.items made.done.report.items made.done.cost
  pub certified : HasCertificate wanted (nest_of at_cost.folds_with.folds_to.compiles.source) at_cost.folds_with.folds_to.plan (option_map (λ text. text.items) made.certificate) at_cost.folds_with.folds_to.folds

-- the program that is read is within the interval rule, and the limit is below its threshold with the plan
pub record IsShort (source : List ℕ) (schedule : Option (List ℕ)) (limit : Option ℕ) : Type 0 where
  pub of : IsPlanned source schedule
  pub near : first_wide of.tree ≡ None
  pub most : ℕ
  pub limited : limit ≡ Some most
  pub below : most < threshold (nest_of of.tree) of.plan.schedule

-- it is at least the threshold
pub record IsPlenty (source : List ℕ) (schedule : Option (List ℕ)) (limit : Option ℕ) : Type 0 where
  pub of : IsPlanned source schedule
  pub reached : is_plenty of.tree of.plan.schedule limit ≡ true
