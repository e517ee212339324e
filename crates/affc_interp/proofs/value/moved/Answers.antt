use Rattle.affc_interp.proofs.Shifts.{shifted_out}
use Rattle.affc_interp.proofs.value.moved.Goals as goal

pub returns-then-by-ge64 : goal.returns-then-by-ge64
returns-then-by-ge64 c = shifted_out c.args.left c.args.x c.args.by c.ranges.x.fits c.if-by-ge64.true
