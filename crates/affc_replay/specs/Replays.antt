-- What a replay makes of a source, its schedule and a certificate.
use Rattle.std.specs.Prelude.{◌≡◌, ℕ, false, List, [], Some}
use Rattle.affc_ast.specs.Compiles.{CompilesText}
use Rattle.affc_ast.specs.declared.tree.ArrayId.{ArrayId}
use Rattle.affc_grammar.specs.Reads.{Reads, ReadsWide}
use Rattle.affc_trace.specs.Dataflow.{LivePair}
use Rattle.affc_trace.specs.Laws.{in_target_order}
use Rattle.affc_basis.specs.declared.fold.Fold.{Fold}
use Rattle.affc_basis.specs.Folds.{place}
use Rattle.affc_plain.specs.Laws.{IsBare}
use Rattle.affc_nest.specs.Nests.{nest_of}
use Rattle.affc_rewrite.specs.Rewrite.{folded_program}
use Rattle.affc_loopends.specs.declared.scanned.scanned.Scanned.{Scanned}
use Rattle.affc_loopends.specs.scanned.Scanned.{Scans}
use Rattle.affc_cprint.specs.Layout.{printed_text}
use Rattle.affc_schedtext.specs.declared.plan.Plan.{Plan}
use Rattle.affc_bounds.specs.Faults.{StaysWithin}
use Rattle.affc_accept.specs.Accepted.{IsAccepted}
use Rattle.affc_driver.specs.Plans.{HasPlan, LegalThroughout, WrittenThroughout}
use Rattle.affc_driver.specs.Reports.{report_text}
use Rattle.affc_replay.specs.Folds.{AreAll, FoldAll}

-- The certificate is one of the source and the plan that the schedule reads as, and the folds are those that it shows, with empty
-- ones for temporaries without dimensions. The text compiles the source, in the order of the plan's schedule and with each element
-- at its place by these folds. It is the printed text of the schedule's loops between projected ends, with folded subscripts and extents. The source is
-- without the prelude and keeps to its arrays at all values of its parameters, of which there are some, and each load of a temporary
-- is written before; the schedule is legal. The folds keep apart what is live together, and the report shows each with its marks,
-- which are true, and the components that are loose; of costs it tells nothing.
pub record ReplaysTo (source schedule certificate text report : List ℕ) : Type 0 where
  pub plan : Plan
  pub shown : List (ArrayId × Fold)
  pub folds : List (ArrayId × Fold)
  pub compiles : CompilesText Reads ReadsWide text source (in_target_order plan.schedule) (place folds)
  pub scanned : Scanned
  pub scans : Scans (folded_program compiles.source folds) plan.schedule scanned
  pub loops : compiles.target ≡ scanned.program
  pub printed : text ≡ printed_text compiles.target
  pub plain : IsBare compiles.source
  pub within : StaysWithin compiles.source
  pub written : WrittenThroughout compiles.source
  pub planned : HasPlan compiles.source (Some schedule) plan
  pub legal : LegalThroughout compiles.source plan.schedule
  pub accepted : IsAccepted (nest_of compiles.source) plan certificate shown
  pub are_all : AreAll (nest_of compiles.source) shown folds
  pub fold_all : FoldAll compiles.source (LivePair compiles.source plan.schedule) folds
  pub told : report ≡ report_text compiles.source folds [] scanned.loose.items
