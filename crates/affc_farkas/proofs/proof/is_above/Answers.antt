use Rattle.std.proofs.Common.{arith}
use Rattle.affc_farkas.proofs.Exact.{above_exact}
use Rattle.affc_farkas.proofs.proof.is_above.Goals as goal

pub returns : goal.returns
returns c = above_exact c.args.pairs.now c.args.row c.requires (omega arith)
