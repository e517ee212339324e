-- What stands between a program and its plan, and what is made of them.
use Rattle.std.specs.Prelude.{◌≡◌, ℕ, List, option_map}
use Rattle.affc_ast.specs.declared.tree.ArrayId.{ArrayId}
use Rattle.affc_ast.specs.declared.tree.Program.{Program}
use Rattle.affc_trace.specs.Dataflow.{LivePair}
use Rattle.affc_split.specs.Budgets.{Account}
use Rattle.affc_basis.specs.declared.fold.Fold.{Fold}
use Rattle.affc_weigh.specs.declared.choice.Choice.{Choice}
use Rattle.affc_rewrite.specs.Rewrite.{folded_program}
use Rattle.affc_loopends.specs.declared.scanned.scanned.Scanned.{Scanned}
use Rattle.affc_loopends.specs.scanned.Scanned.{Scans}
use Rattle.affc_nest.specs.Nests.{nest_of}
use Rattle.affc_cprint.specs.Layout.{printed_text}
use Rattle.affc_schedtext.specs.declared.plan.Plan.{Plan}
use Rattle.affc_bounds.specs.Faults.{StaysWithin}
use Rattle.affc_folds.specs.Folding.{AreFoldsUnder}
use Rattle.affc_driver.specs.Certificates.{HasCertificate}
use Rattle.affc_driver.specs.Costs.{total_cost}
use Rattle.affc_driver.specs.Plans.{LegalThroughout, WrittenThroughout}
use Rattle.affc_driver.specs.Programs.{OfEachText}
use Rattle.affc_driver.specs.Reports.{report_text}
use Rattle.affc_driver.specs.declared.folding.Made.{Made}
use Rattle.affc_driver.specs.declared.wanted.Wanted.{Wanted}

-- each load of a temporary is written before, the plan's schedule is legal, and these are folds under it
pub record AreDecided (Answers : List ℕ → ℕ → Type 0) (program : Program) (plan : Plan) (budget : Account) (folds : List (ArrayId × Fold)) (choices : List (ArrayId × Choice)) : Type 0 where
  pub written : OfEachText program (λ text. WrittenThroughout program)
  pub legal : LegalThroughout program plan.schedule
  pub are_folds : AreFoldsUnder Answers program (LivePair program plan.schedule) plan.folds budget folds choices

-- text and report of the program with these folds
pub record IsMadeOf (program : Program) (plan : Plan) (folds : List (ArrayId × Fold)) (choices : List (ArrayId × Choice)) (text report : List ℕ) : Type 0 where
  pub scanned : Scanned
  pub scans : Scans (folded_program program folds) plan.schedule scanned
  pub printed : text ≡ printed_text scanned.program
  pub told : report ≡ report_text program folds choices scanned.loose.items

-- The program keeps to its arrays, and this is made of it with folds that are decided by its plan; they have a certificate where
-- one is wanted.
pub record IsCompiled (Answers : List ℕ → ℕ → Type 0) (program : Program) (plan : Plan) (budget : Account) (wanted : Wanted) (made : Made) : Type 0 where
  pub within : StaysWithin program
  pub folds : List (ArrayId × Fold)
  pub choices : List (ArrayId × Choice)
  pub decided : AreDecided Answers program plan budget folds choices
  pub is : IsMadeOf program plan folds choices made.done.text.items made.done.report.items
  pub total : made.done.cost ≡ total_cost folds choices
  pub certified : HasCertificate wanted (nest_of program) plan (option_map (λ text. text.items) made.certificate) folds
