-- The folds of a draft that breaks no rule.
use Rattle.std.specs.Prelude.{List, [], ◌∷◌}
use Rattle.affc_schedtext.specs.declared.draft.LineDraft.{LineDraft}
use Rattle.affc_schedtext.specs.declared.outline.Outline.{Outline}
use Rattle.affc_schedtext.specs.declared.plan.SchedFault.{SchedFault}
use Rattle.affc_schedtext.specs.declared.plan.SchedFault.TheVariants as fault
use Rattle.affc_schedtext.specs.Answers.{LosesSubscript}
use Rattle.affc_schedtext.specs.Draft as d
use Rattle.affc_schedtext.specs.Seen.{line_seen}
use Rattle.affc_plan.specs.Maps.{IsRightFold}

abbrev pub AreRightFolds : Outline → List LineDraft → Type 0
AreRightFolds o [] = Unit {0}
AreRightFolds o (l ∷ ls) = IsRightFold o (line_seen l) × AreRightFolds o ls

abbrev pub FoldsFault : Outline → List d.LineDraft → SchedFault → Type 0
FoldsFault o folds (fault.Basis array k) = LosesSubscript o folds array.0 k
FoldsFault o folds fault.Memory = Unit {0}
FoldsFault o folds _ = ⊥
