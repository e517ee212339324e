use Rattle.affc_leaf.specs.Fronts.{IsFront, IsPinned}
use Rattle.affc_leaf.proofs.firsts.least_point.Given as goal

abbrev pub invariant-loop-j : goal.invariant-loop-j
invariant-loop-j l = record {
  pinned : IsPinned l.system.columns l.part.items l.j;
  front : IsFront l.system l.bounds l.part.items;
}
