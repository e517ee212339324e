use Rattle.std.proofs.Common.{arith}
use Rattle.affc_quast.specs.Seen.{seen}
use Rattle.affc_dataflow.proofs.GuessLemmas.{whole_covers}
use Rattle.affc_dataflow.proofs.grown.guessed.Goals as goal

pub returns-clause-right : goal.returns-clause-right
returns-clause-right c =
    let l = c.args.load.now in
    whole_covers l.nest.now l.reader.now l.access.now l.number c.requires.load c.args.ranges.now c.args.left 12 (omega arith) (seen c.in_ok-best.best) c.in_ok-best.ensures.right
