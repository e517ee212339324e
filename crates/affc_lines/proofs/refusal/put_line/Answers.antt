use Rattle.std.proofs.Common.{codes, arith}
use Rattle.affc_lines.proofs.Telling.{told_first, told_second, told_third}
use Rattle.affc_lines.proofs.refusal.put_line.Goals as goal

pub returns-in_default-clause-told : goal.returns-in_default-clause-told
returns-in_default-clause-told g c =
    told_first _ _ c.args.head.now c.args.name.now (codes "\n") c.in_default.field-0 (record { faults = omega arith; shortages = omega arith })
    (rw c.as_bytes.ensures.value at c.in_default.ensures.taken) c.in_default.ensures.cause

pub returns-in_default-put_all-clause-told : goal.returns-in_default-put_all-clause-told
returns-in_default-put_all-clause-told g c =
    told_second _ (g.E.Sink.state c.put_all.new.sink) _
    c.args.head.now c.args.name.now (codes "\n") c.in_default-put_all.field-0 c.put_all.ensures.counts
    (rw c.as_bytes.ensures.value at c.in-Ok.ensures.taken) (rw c.as_bytes-2.ensures.value at c.in_default-put_all.ensures.taken) c.in_default-put_all.ensures.cause

pub returns-clause-told : goal.returns-clause-told
returns-clause-told g c =
    told_third _ (g.E.Sink.state c.put_all.new.sink)
    (g.E.Sink.state c.put_all-2.new.sink) _
    c.args.head.now c.args.name.now (codes "\n") c.put_all-3.result (record { faults = omega (arith, c.put_all.ensures.counts.faults, c.put_all-2.ensures.counts.faults); shortages = omega (arith, c.put_all.ensures.counts.shortages, c.put_all-2.ensures.counts.shortages) })
    (rw c.as_bytes.ensures.value at c.in-Ok.ensures.taken) (rw c.as_bytes-2.ensures.value at c.in-Ok-put_all.ensures.taken) c.put_all-3.ensures.taken c.put_all-3.ensures.cause
