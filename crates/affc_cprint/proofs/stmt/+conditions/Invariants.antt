use Rattle.std.proofs.Common.{◌≡◌, nat_lt, map, string_bytes, take}
use Rattle.affc_cprint.specs.Adds.{Adds}
use Rattle.affc_cprint.specs.Seen.{seen}
use Rattle.affc_cprint.specs.Standings.{side_by_side, written}
use Rattle.affc_cprint.proofs.stmt.+conditions.Given as goal

abbrev pub invariant-entries-loop-c : goal.invariant-entries-loop-c
invariant-entries-loop-c l = Adds (string_bytes l.initial.out) (string_bytes l.out) (side_by_side l.mark l.place (map (written l.prelude (seen l.names)) (take l.c-index l.list))) × (l.is_later ≡ nat_lt 0 l.c-index)
