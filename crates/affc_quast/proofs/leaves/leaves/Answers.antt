use Rattle.std.proofs.Common.{[], map, ap}
use Rattle.affc_quast.specs.Seen.{seen}
use Rattle.affc_quast.specs.SeenLeaves.{leaf_seen}
use Rattle.affc_quast.proofs.PathLemmas.{leaves_made}
use Rattle.affc_quast.proofs.leaves.leaves.Goals as goal

pub returns : goal.returns
returns c =
    leaves_made c.args.columns (seen c.args.tree.now) [] [] (map leaf_seen c.new-out.result.items) (map leaf_seen c.add_leaves.new.out.items) (λ i. []) (λ i. []) (ap (map leaf_seen) c.new-out.ensures.items) c.in_ok-add_leaves.ensures
