-- Which sources, schedules and certificates are replayed.
use Rattle.std.specs.Prelude.{◌≡◌, ◌↔◌, ℕ, false, List, Some, None}
use Rattle.affc_ast.specs.declared.tree.ArrayId.{ArrayId}
use Rattle.affc_ast.specs.declared.tree.Program.{Program}
use Rattle.affc_grammar.specs.Reads.{Reads}
use Rattle.affc_trace.specs.declared.schedule.Schedule.{Schedule}
use Rattle.affc_split.specs.Budgets.{Account}
use Rattle.affc_domain.specs.Ranges.{first_wide}
use Rattle.affc_basis.specs.declared.fold.Fold.{Fold}
use Rattle.affc_plain.specs.Laws.{IsBare}
use Rattle.affc_nest.specs.Nests.{nest_of}
use Rattle.affc_rewrite.specs.Rewrite.{folded_program}
use Rattle.affc_loopends.specs.declared.scanned.scanned.Scanned.{Scanned}
use Rattle.affc_schedtext.specs.declared.plan.Plan.{Plan}
use Rattle.affc_accept.specs.Accepted.{IsAccepted}
use Rattle.affc_driver.specs.Accounts.{FoldsCertified}
use Rattle.affc_driver.specs.Folds.{FoldsTo}
use Rattle.affc_driver.specs.Plans.{HasPlan}
use Rattle.affc_replay.specs.Refusals.{ReplayRefuses}
use Rattle.affc_replay.specs.Replays.{ReplaysTo}
use Rattle.affc_replay.specs.declared.refusal.Refusal.{Refusal}
use Rattle.affc_replay.specs.declared.refusal.Refusal.TheVariants.{Memory}

-- The source reads as a program without the prelude, within the interval rule; the schedule has a plan of it, of which the
-- certificate is one.
pub record IsValid (source schedule certificate : List ℕ) : Type 0 where
  pub program : Program
  pub reads : Reads source program
  pub plain : IsBare program
  pub near : first_wide program ≡ None
  pub plan : Plan
  pub planned : HasPlan program (Some schedule) plan
  pub folds : List (ArrayId × Fold)
  pub accepted : IsAccepted (nest_of program) plan certificate folds

-- Exactly such have a text that they are replayed to.
abbrev pub ValidIsReplayed : Type 0
ValidIsReplayed = (source schedule certificate : List ℕ)
    → IsValid source schedule certificate ↔ ((text : List ℕ) × ((report : List ℕ) × ReplaysTo source schedule certificate text report))

-- They are refused, if at all, for want of memory.
abbrev pub ValidIsNotRefused : Type 0
ValidIsNotRefused = (source schedule certificate : List ℕ) (refusal : Refusal)
    → IsValid source schedule certificate → ReplayRefuses source schedule certificate refusal → refusal ≡ Memory

-- ---- What `fold` wrote

-- A certificate that was made for a source and a schedule is replayed to the text that was made with it.
abbrev pub CertifiedIsReplayed : (Answers : List ℕ → ℕ → Type 0) → Type 0
CertifiedIsReplayed Answers = (source schedule : List ℕ) (left : Account) (text report certificate : List ℕ)
    → FoldsCertified Answers source (Some schedule) left text report certificate → (told : List ℕ) × ReplaysTo source schedule certificate text told

-- Whatever else it is replayed to is printed of the same program with folds, and in the same order. Where the ends of loops are made by
-- one function of these, it is the same text, byte for byte.
pub record PrintsTheSame (Answers : List ℕ → ℕ → Type 0) (source schedule : List ℕ) (left : Account) (text report certificate again told : List ℕ) (made : FoldsTo Answers source (Some schedule) left text report)
    (replayed : ReplaysTo source schedule certificate again told) : Type 0 where
  pub one_program : folded_program made.compiles.source made.folds ≡ folded_program replayed.compiles.source replayed.folds
  pub one_order : made.plan.schedule ≡ replayed.plan.schedule
  pub one_text : (ends : Program → Schedule → Scanned) → made.scanned ≡ ends (folded_program made.compiles.source made.folds) made.plan.schedule
      → replayed.scanned ≡ ends (folded_program replayed.compiles.source replayed.folds) replayed.plan.schedule → again ≡ text

abbrev pub ReplaysTheSame : (Answers : List ℕ → ℕ → Type 0) → Type 0
ReplaysTheSame Answers = (source schedule : List ℕ) (left : Account) (text report certificate again told : List ℕ)
    → (f : FoldsCertified Answers source (Some schedule) left text report certificate) (r : ReplaysTo source schedule certificate again told)
    → PrintsTheSame Answers source schedule f.folds_with.account text report certificate again told f.folds_with.folds_to r
