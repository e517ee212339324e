use Rattle.std.proofs.Common.{All, map, take, drop}
use Rattle.affc_schedtext.specs.Answers.{IsUndone}
use Rattle.affc_schedtext.specs.Rules.{statement_sides}
use Rattle.affc_schedtext.specs.Seen.{line_seen}
use Rattle.affc_plan.specs.Times.{AreRightTimes}
use Rattle.affc_plan.proofs.times.all_undone.Given as goal

abbrev pub invariant-loop-line : goal.invariant-loop-line
invariant-loop-line l = record {
  undone : All (λ x. IsUndone (statement_sides l.outline l.components x)) (map line_seen (take l.line-index l.lines));
  right : AreRightTimes l.outline l.components (drop l.line-index l.lines);
}
