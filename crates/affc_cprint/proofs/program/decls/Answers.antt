use Rattle.std.proofs.Common.{arith}
use Rattle.affc_cprint.specs.Seen.{seen}
use Rattle.affc_cprint.proofs.Programs.{decls_step}
use Rattle.affc_cprint.proofs.program.decls.Goals as goal

pub loop-d-preserved : goal.loop-d-preserved
loop-d-preserved c =
    decls_step c.args.prelude (seen c.loop-d.names) (seen c.show_array.new.names) c.args.temps.now c.loop-d.d-index c.d-item.result c.as_str.result.now (omega arith) c.d-item.is c.as_str.ensures
    c.in_ok-decl.ensures c.in_ok-show_array.ensures c.loop-d.invariant
