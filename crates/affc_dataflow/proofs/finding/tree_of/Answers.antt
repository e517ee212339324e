use Rattle.std.proofs.Common.{refl}
use Rattle.affc_quast.specs.Trees.{Input}
use Rattle.affc_dataflow.proofs.FindLemmas.{dead_tree}
use Rattle.affc_dataflow.proofs.finding.tree_of.Goals as goal

pub returns-else-load-clause-right : goal.returns-else-load-clause-right
returns-else-load-clause-right c =
    let l = c.args.load.now in
    dead_tree l.nest.now l.reader.now l.access.now Input c.if-load.false refl
