use Rattle.std.proofs.lemmas.Int.{to_z-of_z}
use Rattle.affc_cprint.proofs.Writes.{◌next◌, ends}
use Rattle.affc_cprint.proofs.Programs.{range_pieces}
use Rattle.affc_cprint.proofs.program.range_line.Goals as goal

pub returns : goal.returns
returns c =
    let bounds = simp (to_z-of_z, c.ranges.low, c.ranges.high) at c.bounds.ensures in
    ends c.bounds.result _ _ _ (c.in_ok-push.ensures next c.in_ok-push-2.ensures) bounds (range_pieces c.args.name.now c.args.low c.args.high)
