use Rattle.affc_accept.proofs.Same.{unit_told}
use Rattle.affc_accept.proofs.bases.is_unit.Goals as goal

-- src/bases.rt:104:1
pub returns : goal.returns
returns c = unit_told c.args.basis.now c.is_identity.result c.is_identity.ensures
