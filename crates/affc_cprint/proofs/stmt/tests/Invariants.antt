use Rattle.std.proofs.Common.{string_bytes, take}
use Rattle.std.specs.List.{flat_map}
use Rattle.affc_cprint.specs.Adds.{Adds}
use Rattle.affc_cprint.specs.Seen.{seen}
use Rattle.affc_cprint.specs.Statements.{test_added}
use Rattle.affc_cprint.proofs.stmt.tests.Given as goal

abbrev pub invariant-loop-c : goal.invariant-loop-c
invariant-loop-c l = Adds (string_bytes l.initial.out) (string_bytes l.out) (flat_map (test_added (seen l.names)) (take l.c-index l.rest))
