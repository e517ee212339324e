use Rattle.std.proofs.Common.{map, take, drop}
use Rattle.affc_schedtext.specs.Answers.{AreBasesOfLines}
use Rattle.affc_schedtext.specs.Seen.{line_seen}
use Rattle.affc_plan.specs.Folds.{AreRightFolds}
use Rattle.affc_plan.proofs.folds.bases.Given as goal

abbrev pub invariant-loop-line : goal.invariant-loop-line
invariant-loop-line l = record {
  made : AreBasesOfLines l.outline (map line_seen (take l.line-index l.folds)) l.bases;
  right : AreRightFolds l.outline (drop l.line-index l.folds);
}
