-- The lines of statements in a draft that breaks no rule.
use Rattle.std.specs.Prelude.{◌≡◌, ℕ, ◌<◌, List, [], ◌∷◌, length, get_or, slice_get, Some}
use Rattle.affc_trace.specs.declared.schedule.TimeMap.{TimeMap}
use Rattle.affc_schedtext.specs.declared.draft.LineDraft.{LineDraft}
use Rattle.affc_schedtext.specs.declared.outline.Outline.{Outline}
use Rattle.affc_schedtext.specs.declared.plan.SchedFault.{SchedFault}
use Rattle.affc_schedtext.specs.declared.plan.SchedFault.TheVariants as fault
use Rattle.affc_schedtext.specs.Answers.{LosesIterator, IsMapOfLine}
use Rattle.affc_schedtext.specs.Draft as d
use Rattle.affc_schedtext.specs.Outline.{statement_of}
use Rattle.affc_schedtext.specs.Rules.{statement_sides}
use Rattle.affc_schedtext.specs.Seen.{line_seen}
use Rattle.affc_plan.specs.Maps.{IsRightLine}

abbrev pub AreRightTimes : Outline → ℕ → List LineDraft → Type 0
AreRightTimes o n [] = Unit {0}
AreRightTimes o n (l ∷ ls) = IsRightLine o n (line_seen l) × AreRightTimes o n ls

abbrev pub TimesFault : Outline → ℕ → List d.LineDraft → SchedFault → Type 0
TimesFault o n lines (fault.Inverse s k) = LosesIterator o n lines s k
TimesFault o n lines fault.Memory = Unit {0}
TimesFault o n lines _ = ⊥

-- the map of the statement with this number is that of a line of it
pub record HasMap (o : Outline) (n : ℕ) (lines : List LineDraft) (maps : List TimeMap) (s : ℕ) : Type 0 where
  pub at : ℕ
  pub line : LineDraft
  pub map : TimeMap
  pub within : at < length lines
  pub stands : line ≡ get_or lines at line
  pub number : statement_of o (line_seen line).name ≡ Some s
  pub found : slice_get maps s ≡ Some map
  pub forms : IsMapOfLine (statement_sides o n (line_seen line)) map
