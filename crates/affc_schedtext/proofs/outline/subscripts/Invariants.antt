use Rattle.std.proofs.Common.{◌≡◌, ◌+◌, ◌-◌, ◌≤◌, ◌++◌, codes}
use Rattle.affc_schedtext.specs.Outline.{numbered_names}
use Rattle.affc_schedtext.proofs.outline.subscripts.Given as goal

abbrev pub invariant-loop-number : goal.invariant-loop-number
invariant-loop-number l = record {
  within : l.number ≤ l.count;
  made : l.names ++ numbered_names (codes "x") (l.number + 1) (l.count - l.number) ≡ numbered_names (codes "x") 1 l.count;
}

abbrev pub decreases-loop-number : goal.decreases-loop-number
decreases-loop-number l = l.count - l.number
