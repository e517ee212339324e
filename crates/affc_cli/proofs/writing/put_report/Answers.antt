use Rattle.affc_cli.proofs.Putting.{whole_reports, failed_reports, short_reports}
use Rattle.affc_cli.proofs.writing.put_report.Goals as goal

pub returns-in-Ok-clause-reports : goal.returns-in-Ok-clause-reports
returns-in-Ok-clause-reports g c = whole_reports c.args.report.now _ _ c.in-Ok.ensures.taken

pub returns-in-Fault-clause-reports : goal.returns-in-Fault-clause-reports
returns-in-Fault-clause-reports g c =
    failed_reports c.args.report.now c.in-Err.fault _ _ c.in-Err.ensures.taken c.in-Err.ensures.bound (rw c.in-Fault.is at c.in-Err.ensures.cause)

pub returns-in-Memory-clause-reports : goal.returns-in-Memory-clause-reports
returns-in-Memory-clause-reports g c =
    short_reports c.args.report.now c.in-Err.fault _ _ _ c.tell_short.result c.in-Err.ensures.taken c.in-Err.ensures.bound (rw c.in-Memory.is at c.in-Err.ensures.cause)
    c.tell_short.ensures.counts c.tell_short.ensures.status c.tell_short.ensures.told
