use Rattle.std.proofs.Common.{◌≡◌, ap, arith}
use Rattle.affc_ast.specs.Index.{nodes_of_ix}
use Rattle.affc_interp.specs.Steps.{right_nodes}
use Rattle.affc_interp.proofs.index.+node_count.Goals as goal

pub right_count-node_count-requires : goal.right_count-node_count-requires
right_count-node_count-requires t c =
    let r : right_nodes c.args.step ≡ nodes_of_ix c.in-Joined.b.now = ap right_nodes c.in-Joined.is in
    (omega (arith, r), omega (arith, r))
