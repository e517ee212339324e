use Rattle.affc_farkas.proofs.Rationals.{leaf_refutes}
use Rattle.affc_farkas.proofs.laws.leaf_refutes_rational_points.Goals as goal

pub returns : goal.returns
returns c = leaf_refutes
