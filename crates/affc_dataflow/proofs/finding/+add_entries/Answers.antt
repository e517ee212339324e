use Rattle.std.proofs.Common.{map}
use Rattle.std.proofs.lemmas.Result.{on_ok_weaker}
use Rattle.affc_quast.specs.Seen.{seen}
use Rattle.affc_dataflow.proofs.SplitLemmas.{trees_added}
use Rattle.affc_dataflow.proofs.finding.+add_entries.Goals as goal

pub returns-in_ok-add_entries-in_default-clause-trees : goal.returns-in_ok-add_entries-in_default-clause-trees
returns-in_ok-add_entries-in_default-clause-trees t c =
    on_ok_weaker c.add_entries-in_default.result
    (trees_added c.args.nest.now c.args.entries.now c.split_at.result.0.now c.split_at.result.1.now (map seen c.args.out.now) (map seen c.add_entries.new.out) (map seen c.add_entries-in_default.new.out)
    c.split_at.ensures.by_index.0 c.in_ok-add_entries-in_default.ensures.trees)
    c.add_entries-in_default.ensures.trees
