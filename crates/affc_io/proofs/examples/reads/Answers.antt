use Rattle.affc_io.proofs.ExampleProofs.{three_reads}
use Rattle.affc_io.proofs.examples.reads.Goals as goal

pub returns : goal.returns
returns c =
    let first = c.read.ensures in
    let second = c.read-2.ensures in
    let third = c.read-3.ensures in
    record {
      logged = three_reads _ _ _ _ _ _ _ _ _ _ _ _ _ c.read.result c.read-2.result c.read-3.result
          c.requires.held first.files second.files c.requires.fails first.fails second.fails c.requires.calls first.calls second.calls
          (record { failed = first.failed.0; listed = first.failed.1; ok = first.ok; missing = first.missing; long = first.long })
          (record { failed = second.failed.0; listed = second.failed.1; ok = second.ok; missing = second.missing; long = second.long })
          (record { failed = third.failed.0; listed = third.failed.1; ok = third.ok; missing = third.missing; long = third.long })
          c.requires.reads first.reads second.reads third.reads;
    }
