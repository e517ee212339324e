use Rattle.std.proofs.Common.{◌≤◌, length, take}
use Rattle.affc_floor.specs.Spans.{IsTally, begins}
use Rattle.affc_floor.proofs.tally.begun.Given as goal

abbrev pub invariant-loop-span : goal.invariant-loop-span
invariant-loop-span l = record { tally : IsTally begins l.instants (take l.span-index l.spans) l.counts.items; reached : l.span-index ≤ length l.spans }
