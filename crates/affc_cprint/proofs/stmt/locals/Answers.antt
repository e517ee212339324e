use Rattle.std.proofs.Common.{arith}
use Rattle.affc_cprint.specs.Seen.{seen}
use Rattle.affc_cprint.proofs.Programs.{locals_step}
use Rattle.affc_cprint.proofs.stmt.locals.Goals as goal

pub loop-one-preserved : goal.loop-one-preserved
loop-one-preserved c =
    locals_step c.args.prelude c.args.level (seen c.loop-one.names) (seen c.show.new.names) c.args.list.now c.loop-one.one-index c.one-item.result c.as_str.result.now (omega arith) c.one-item.is c.as_str.ensures
    c.in_ok-local.ensures c.in_ok-show.ensures c.loop-one.invariant
