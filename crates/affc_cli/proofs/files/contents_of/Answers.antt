use Rattle.std.proofs.Common.{Ok, Err, ap}
use Rattle.affc_cli.proofs.Reading.{unread_told}
use Rattle.affc_cli.proofs.files.contents_of.Goals as goal

pub returns-in-Ok-clause-once : goal.returns-in-Ok-clause-once
returns-in-Ok-clause-once g c = (Ok c.in-Ok.text.items, c.in-Ok.ensures.reads)

pub returns-in-Ok-clause-read : goal.returns-in-Ok-clause-read
returns-in-Ok-clause-read g c = c.in-Ok.ensures.reads

pub returns-in-Err-clause-once : goal.returns-in-Err-clause-once
returns-in-Err-clause-once g c = (Err c.in-Err.fault, c.in-Err.ensures.reads)

pub returns-in-Err-clause-err : goal.returns-in-Err-clause-err
returns-in-Err-clause-err g c =
    rw (c.unread.ensures)
    (unread_told c.args.file c.args.name.now _ _ c.in-Err.fault c.in-Err.ensures.reads
    (λ e. c.in-Err.ensures.failed (ap Err e)) (λ e. c.in-Err.ensures.missing (ap Err e)) (λ e. c.in-Err.ensures.long (ap Err e)))
