-- What a compilation makes of a source and its schedule.
use Rattle.std.specs.Prelude.{◌≡◌, ℕ, false, List, Option}
use Rattle.affc_ast.specs.Compiles.{CompilesText}
use Rattle.affc_ast.specs.declared.tree.ArrayId.{ArrayId}
use Rattle.affc_grammar.specs.Reads.{Reads, ReadsWide}
use Rattle.affc_trace.specs.Dataflow.{LivePair}
use Rattle.affc_trace.specs.Laws.{in_target_order}
use Rattle.affc_split.specs.Budgets.{Account}
use Rattle.affc_basis.specs.declared.fold.Fold.{Fold}
use Rattle.affc_basis.specs.Folds.{place}
use Rattle.affc_plain.specs.Laws.{IsBare}
use Rattle.affc_weigh.specs.declared.choice.Choice.{Choice}
use Rattle.affc_rewrite.specs.Rewrite.{folded_program}
use Rattle.affc_loopends.specs.declared.scanned.scanned.Scanned.{Scanned}
use Rattle.affc_loopends.specs.scanned.Scanned.{Scans}
use Rattle.affc_cprint.specs.Layout.{printed_text}
use Rattle.affc_schedtext.specs.declared.plan.Plan.{Plan}
use Rattle.affc_bounds.specs.Faults.{StaysWithin}
use Rattle.affc_folds.specs.Folding.{AreFoldsUnder}
use Rattle.affc_driver.specs.Plans.{HasPlan, LegalThroughout, WrittenThroughout}
use Rattle.affc_driver.specs.Reports.{report_text}

-- The text compiles the source, in the order of the plan's schedule and with each element at its place by the folds. It is the
-- printed text of the schedule's loops between projected ends, which for the source's own order are the source, with folded subscripts
-- and extents, and the report shows the components that are loose. The source is without the prelude and keeps to its arrays at all values of its parameters, of which there are some, and each load
-- of a temporary is written before; the schedule is legal. The folds are of its temporaries, over the plan's bases where it
-- gives them, else over the cheapest that are listed, by what the stored cost answers: they keep apart what is live together, and
-- the report shows each with its marks, which are true, with its cost and with what the other listed bases come to. This budget is
-- what is left: only where no unit is left a temporary is whole, a modulus a bound alone, or the price of a basis missing.
pub record FoldsTo (Answers : List ℕ → ℕ → Type 0) (source : List ℕ) (schedule : Option (List ℕ)) (budget : Account) (text report : List ℕ) : Type 0 where
  pub plan : Plan
  pub folds : List (ArrayId × Fold)
  pub choices : List (ArrayId × Choice)
  pub compiles : CompilesText Reads ReadsWide text source (in_target_order plan.schedule) (place folds)
  pub scanned : Scanned
  pub scans : Scans (folded_program compiles.source folds) plan.schedule scanned
  pub loops : compiles.target ≡ scanned.program
  pub printed : text ≡ printed_text compiles.target
  pub plain : IsBare compiles.source
  pub within : StaysWithin compiles.source
  pub written : WrittenThroughout compiles.source
  pub planned : HasPlan compiles.source schedule plan
  pub legal : LegalThroughout compiles.source plan.schedule
  pub are_folds : AreFoldsUnder Answers compiles.source (LivePair compiles.source plan.schedule) plan.folds budget folds choices
  pub told : report ≡ report_text compiles.source folds choices scanned.loose.items
