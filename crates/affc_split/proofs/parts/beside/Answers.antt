use Rattle.std.proofs.Common.{◌+◌, subst}
use Rattle.affc_split.specs.Search.{IsFound, part_of, other_side}
use Rattle.affc_split.proofs.Spending.{side_least}
use Rattle.affc_split.proofs.parts.beside.Goals as goal

pub returns-in-Point-clause-answer : goal.returns-in-Point-clause-answer
returns-in-Point-clause-answer c =
    let here = c.args.here.now in
    let s = c.args.split in
    let side = c.args.side in
    side_least here.system.now here.bounds.now s side here.next c.in-Point.point.items c.requires.split c.requires.proof.none
    (subst (λ f. IsFound here.system.now (part_of (other_side side) here.bounds.now s here.next) (here.next + 1) f) c.in-Point.is c.requires.other)
