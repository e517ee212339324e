use Rattle.std.proofs.Common.{◌≡◌, ◌+◌, drop, map}
use Rattle.affc_compare.specs.Sharing.{sharing, assigns_among}
use Rattle.affc_compare.proofs.source.+counts.Given as goal

abbrev pub invariant-count_among-loop-s : goal.invariant-count_among-loop-s
invariant-count_among-loop-s l = l.count + assigns_among (map sharing (drop l.s-index l.body)) ≡ assigns_among (map sharing l.body)
