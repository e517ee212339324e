use Rattle.std.proofs.Common.{length, ◌-◌, ◌≡◌, ◌≤◌, take}
use Rattle.affc_io.specs.State.{SinkCounts}
use Rattle.affc_io.specs.Taken.{grown}
use Rattle.affc_io.proofs.put.put_all.Given as goal

abbrev pub invariant-loop-written : goal.invariant-loop-written
invariant-loop-written g l = record {
  within : l.written ≤ length l.bytes;
  counts : SinkCounts (g.S.Sink.state l.initial.sink) (g.S.Sink.state l.sink);
  taken : (g.S.Sink.state l.sink).taken ≡ grown (g.S.Sink.state l.initial.sink).taken (take l.written l.bytes);
}

abbrev pub decreases-loop-written : goal.decreases-loop-written
decreases-loop-written g l = length l.bytes - l.written
