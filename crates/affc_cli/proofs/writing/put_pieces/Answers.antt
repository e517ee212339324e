use Rattle.affc_cli.proofs.Putting.{whole_puts, failed_puts, short_puts}
use Rattle.affc_cli.proofs.writing.put_pieces.Goals as goal

pub returns-in-Ok-clause-puts : goal.returns-in-Ok-clause-puts
returns-in-Ok-clause-puts g c =
    whole_puts c.args.text.now c.args.report.now _ _ _ _ c.put_report.result c.in-Ok.ensures.taken c.put_report.ensures.reports

pub returns-in-Fault-clause-puts : goal.returns-in-Fault-clause-puts
returns-in-Fault-clause-puts g c =
    failed_puts c.args.text.now c.args.report.now c.in-Err.fault _ _ _ c.in-Err.ensures.taken c.in-Err.ensures.bound (rw c.in-Fault.is at c.in-Err.ensures.cause)

pub returns-in-Memory-clause-puts : goal.returns-in-Memory-clause-puts
returns-in-Memory-clause-puts g c =
    short_puts c.args.text.now c.args.report.now c.in-Err.fault _ _ _ _ c.tell_short.result c.in-Err.ensures.taken c.in-Err.ensures.bound (rw c.in-Memory.is at c.in-Err.ensures.cause)
    c.tell_short.ensures.status c.tell_short.ensures.told
