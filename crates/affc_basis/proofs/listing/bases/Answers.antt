use Rattle.std.proofs.Common.{arith}
use Rattle.affc_basis.proofs.ListedBases.{shape_at}
use Rattle.affc_basis.proofs.listing.bases.Goals as goal

pub basis-requires : goal.basis-requires
basis-requires g c =
    let few = c.requires.few in (
      omega (arith, few),
      shape_at _ c.args.rows.now c.args.inverses.now c.loop-i.i c.index-rows-i.result c.index-inverses-i.result (omega arith) c.requires.one_each c.requires.are_bases c.index-rows-i.is c.index-inverses-i.is,
    )
