use Rattle.std.proofs.Common.{arith}
use Rattle.affc_loopends.proofs.Remaining.{all_left, more_left_out, left_printable}
use Rattle.affc_loopends.proofs.left.left_of.Goals as goal

pub loop-place-init : goal.loop-place-init
loop-place-init c = (all_left c.args.columns c.args.beside.now c.args.kept.items, omega (arith, c.args.kept.ok, c.len-count.ensures))

pub without_implied-requires-clause-rows : goal.without_implied-requires-clause-rows
without_implied-requires-clause-rows c = left_printable c.args.columns c.args.beside.now c.args.kept.items c.loop-place.left.rows.items c.loop-place.invariant.0 c.requires.kept

pub loop-place-preserved : goal.loop-place-preserved
loop-place-preserved c = (
  more_left_out c.args.columns c.args.beside.now c.args.kept.items c.loop-place.left.rows.items c.in_ok-left.left.rows.items c.loop-place.invariant.0 c.in_ok-left.ensures.left,
  omega (arith, c.loop-place.invariant.1, c.in_ok-left.ensures.one_less),
)
