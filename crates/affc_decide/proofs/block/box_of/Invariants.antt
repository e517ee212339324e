use Rattle.std.proofs.Common.{◌≡◌, ◌*◌, length, take}
use Rattle.affc_system.specs.Boxes.{IsBox}
use Rattle.affc_decide.specs.Blocks.{ends_of}
use Rattle.affc_decide.proofs.block.box_of.Given as goal

abbrev pub invariant-loop-i : goal.invariant-loop-i
invariant-loop-i l = (ends_of l.ranges ≡ take (2 * l.i) l.ends) × (length l.ranges ≡ l.i) × IsBox l.ranges
