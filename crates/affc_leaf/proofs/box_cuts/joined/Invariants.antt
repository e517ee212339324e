use Rattle.std.proofs.Common.{◌≡◌, ◌++◌, drop}
use Rattle.affc_leaf.specs.BoxCuts.{behind}
use Rattle.affc_leaf.proofs.box_cuts.joined.Given as goal

abbrev pub invariant-loop-pair : goal.invariant-loop-pair
invariant-loop-pair l = l.pairs.items ++ behind l.next (drop l.pair-index l.over) ≡ l.own ++ behind l.next l.over
