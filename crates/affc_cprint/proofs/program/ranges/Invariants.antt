use Rattle.std.proofs.Common.{string_bytes, take}
use Rattle.std.specs.List.{flat_map}
use Rattle.affc_cprint.specs.Adds.{Adds}
use Rattle.affc_cprint.specs.Programs.{range_added}
use Rattle.affc_cprint.proofs.program.ranges.Given as goal

abbrev pub invariant-loop-p : goal.invariant-loop-p
invariant-loop-p l = Adds (string_bytes l.initial.out) (string_bytes l.out) (flat_map range_added (take l.p-index l.params))
