use Rattle.std.proofs.Common.{string_bytes, take}
use Rattle.std.specs.List.{flat_map}
use Rattle.affc_cprint.specs.Adds.{Adds}
use Rattle.affc_cprint.specs.Seen.{seen}
use Rattle.affc_cprint.specs.Statements.{dim_added}
use Rattle.affc_cprint.proofs.index.dims.Given as goal

abbrev pub invariant-loop-e : goal.invariant-loop-e
invariant-loop-e l = Adds (string_bytes l.initial.out) (string_bytes l.out) (flat_map (dim_added l.prelude (seen l.names)) (take l.e-index l.subs))
