use Rattle.std.proofs.Common.{◌≡◌, ◌≤◌, map, drop}
use Rattle.affc_syntax.specs.draft.Symbols.{seen}
use Rattle.affc_limits.specs.Shape.{passed_from, nothing}
use Rattle.affc_limits.proofs.shape.shape_fault.Given as goal

abbrev pub invariant-loop-at : goal.invariant-loop-at
invariant-loop-at l = record {
  tokens : l.counts.tokens ≤ l.at;
  run : l.counts.run ≤ l.at;
  brackets : l.counts.brackets ≤ l.at;
  items : l.counts.items ≤ l.at;
  passed : passed_from l.limits 0 nothing (map seen l.symbols) ≡ passed_from l.limits l.at l.counts (map seen (drop l.at l.symbols));
}
