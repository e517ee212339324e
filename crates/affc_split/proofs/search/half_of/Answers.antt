use Rattle.affc_leaf.proofs.Steps.{low_ready}
use Rattle.affc_split.proofs.search.half_of.Goals as goal

pub returns-in-High-clause-fuel : goal.returns-in-High-clause-fuel
returns-in-High-clause-fuel c =
    let here = c.args.here.now in
    let s = c.requires.split in
    (low_ready here.system.now.columns here.bounds.now here.next here.left c.args.split.column c.args.split.at c.requires.ready.box c.requires.free s.low_in s.high_in c.requires.even.low_half).0
