use Rattle.affc_accept.proofs.Same.{same_is}
use Rattle.affc_accept.proofs.bases.is_same_basis.Goals as goal

-- src/bases.rt:96:1
pub returns : goal.returns
returns c = same_is c.args.basis.now c.args.other.now c.same_shape.result c.same_shape.ensures
