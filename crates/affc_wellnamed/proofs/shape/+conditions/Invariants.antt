use Rattle.std.proofs.Common.{◌≡◌, map, drop}
use Rattle.affc_wellnamed.specs.Shape.{cond_extent, entries_behind}
use Rattle.affc_wellnamed.proofs.shape.+conditions.Given as goal

abbrev pub invariant-entries_behind-loop-c : goal.invariant-entries_behind-loop-c
invariant-entries_behind-loop-c l = entries_behind l.all l.row (map (cond_extent l.prelude) (drop l.c-index l.cs)) ≡ entries_behind l.all l.initial.row (map (cond_extent l.prelude) l.cs)
