use Rattle.std.proofs.Common.{◌≡◌}
use Rattle.affc_floor.specs.Spans.{left_open, IsGreatestBefore}
use Rattle.affc_floor.proofs.greatest.sweep.Given as goal

abbrev pub invariant-loop-i : goal.invariant-loop-i
invariant-loop-i l = record { count : l.count ≡ left_open l.i l.spans; greatest : IsGreatestBefore l.i l.spans l.most }
