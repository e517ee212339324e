use Rattle.std.proofs.Common.{◌≡◌, ◌<◌, ◌^◌, drop, map}
use Rattle.affc_compare.specs.Sharing.{sharing, assigns_among, loops_among}
use Rattle.affc_compare.proofs.source.+sharing.Given as goal

abbrev pub invariant-loops_among-loop-s : goal.invariant-loops_among-loop-s
invariant-loops_among-loop-s l = record {
  few : assigns_among (map sharing (drop l.s-index l.body)) < 2 ^ 32;
  same : loops_among (map sharing (drop l.s-index l.body)) l.first l.second ≡ loops_among (map sharing l.body) l.a l.b;
}
