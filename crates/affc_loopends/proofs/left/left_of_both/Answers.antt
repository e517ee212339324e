use Rattle.std.proofs.Common.{subst, sym, ◌++◌}
use Rattle.std.specs.List.{All}
use Rattle.affc_loopends.specs.Sizes.{IsPrintable}
use Rattle.affc_loopends.proofs.Remaining.{left_printable}
use Rattle.affc_loopends.proofs.left.left_of_both.Goals as goal

pub left_beside-requires-2-clause-other : goal.left_beside-requires-2-clause-other
left_beside-requires-2-clause-other c =
    subst (All (IsPrintable c.args.columns)) (sym c.as_slice-2.ensures.value)
    (left_printable c.args.columns (c.args.flat.now ++ c.as_slice.result.now) c.args.lower.items c.in_ok-low.low.items c.in_ok-low.ensures c.requires.lower)
