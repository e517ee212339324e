use Rattle.affc_basis.proofs.ListedBases.{not_broken}
use Rattle.affc_basis.proofs.listing.basis.Goals as goal

pub unreachable-requires : goal.unreachable-requires
unreachable-requires g c = not_broken _ c.args.rows.now c.args.inverse.now c.in_ok-rows.rows c.in_ok-inverse.inverse _ c.requires c.in_ok-rows.ensures c.in_ok-inverse.ensures c.in-Err.ensures.broken
