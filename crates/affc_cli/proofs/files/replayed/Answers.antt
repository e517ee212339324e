use Rattle.std.proofs.Common.{[], ◌∷◌}
use Rattle.std.proofs.lemmas.Result.{err_from_is_err_and}
use Rattle.affc_lines.specs.declared.refusal.Operand.TheVariants as operand
use Rattle.affc_cli.specs.Refusal.{ReplayCause}
use Rattle.affc_cli.proofs.Reading.{once_in_order, in_order_behind, unheld, unheld_behind, replay_texts, replay_promised, replay_refused}
use Rattle.affc_cli.proofs.files.replayed.Goals as goal

pub returns-in_err-source-clause-reads : goal.returns-in_err-source-clause-reads
returns-in_err-source-clause-reads g c =
    once_in_order c.args.source.now (c.args.schedule.now ∷ c.args.certificate.now ∷ []) (g.F.Folder.state c.args.folder.now) (g.F.Folder.state c.contents_of.new.folder) c.in_err-source.ensures.once

pub returns-in_err-source-clause-err : goal.returns-in_err-source-clause-err
returns-in_err-source-clause-err g c =
    let p = err_from_is_err_and c.from_residual.result c.from_residual.ensures.1 in
    rw (p.1, p.2)
    (unheld operand.Source [] c.args.source.now (g.F.Folder.state c.args.folder.now) (g.F.Folder.state c.contents_of.new.folder) (λ refusal. ReplayCause refusal c.args.source.now c.args.schedule.now c.args.certificate.now (g.F.Folder.state c.args.folder.now) (g.F.Folder.state c.contents_of.new.folder)) (λ why u. u) tt _
    c.in_err-source.ensures.err)

pub returns-in_err-schedule-clause-reads : goal.returns-in_err-schedule-clause-reads
returns-in_err-schedule-clause-reads g c =
    in_order_behind c.args.source.now c.in_ok-source.source.items (c.args.schedule.now ∷ c.args.certificate.now ∷ []) (g.F.Folder.state c.args.folder.now) (g.F.Folder.state c.contents_of.new.folder) (g.F.Folder.state c.contents_of-2.new.folder) c.in_ok-source.ensures.read
    (once_in_order c.args.schedule.now (c.args.certificate.now ∷ []) (g.F.Folder.state c.contents_of.new.folder) (g.F.Folder.state c.contents_of-2.new.folder) c.in_err-schedule.ensures.once)

pub returns-in_err-schedule-clause-err : goal.returns-in_err-schedule-clause-err
returns-in_err-schedule-clause-err g c =
    let p = err_from_is_err_and c.from_residual-in_err-schedule.result c.from_residual-in_err-schedule.ensures.1 in
    rw (p.1, p.2)
    (unheld operand.Schedule (c.args.source.now ∷ []) c.args.schedule.now (g.F.Folder.state c.args.folder.now) (g.F.Folder.state c.contents_of-2.new.folder) (λ refusal. ReplayCause refusal c.args.source.now c.args.schedule.now c.args.certificate.now (g.F.Folder.state c.args.folder.now) (g.F.Folder.state c.contents_of-2.new.folder)) (λ why u. u) tt _
    (unheld_behind c.args.source.now c.in_ok-source.source.items (g.F.Folder.state c.args.folder.now) (g.F.Folder.state c.contents_of.new.folder) (g.F.Folder.state c.contents_of-2.new.folder) c.in_ok-source.ensures.keeps c.in_ok-source.ensures.ok c.in_ok-source.ensures.fits c.in_ok-source.ensures.read
    operand.Schedule [] c.args.schedule.now _ c.in_err-schedule.ensures.err))

pub returns-in_err-certificate-clause-reads : goal.returns-in_err-certificate-clause-reads
returns-in_err-certificate-clause-reads g c =
    in_order_behind c.args.source.now c.in_ok-source.source.items (c.args.schedule.now ∷ c.args.certificate.now ∷ []) (g.F.Folder.state c.args.folder.now) (g.F.Folder.state c.contents_of.new.folder) (g.F.Folder.state c.contents_of-3.new.folder) c.in_ok-source.ensures.read
    (in_order_behind c.args.schedule.now c.in_ok-schedule.schedule.items (c.args.certificate.now ∷ []) (g.F.Folder.state c.contents_of.new.folder) (g.F.Folder.state c.contents_of-2.new.folder) (g.F.Folder.state c.contents_of-3.new.folder) c.in_ok-schedule.ensures.read
    (once_in_order c.args.certificate.now [] (g.F.Folder.state c.contents_of-2.new.folder) (g.F.Folder.state c.contents_of-3.new.folder) c.in_err-certificate.ensures.once))

pub returns-in_err-certificate-clause-err : goal.returns-in_err-certificate-clause-err
returns-in_err-certificate-clause-err g c =
    let p = err_from_is_err_and c.from_residual-in_err-certificate.result c.from_residual-in_err-certificate.ensures.1 in
    rw (p.1, p.2)
    (unheld operand.Certificate (c.args.source.now ∷ c.args.schedule.now ∷ []) c.args.certificate.now (g.F.Folder.state c.args.folder.now) (g.F.Folder.state c.contents_of-3.new.folder) (λ refusal. ReplayCause refusal c.args.source.now c.args.schedule.now c.args.certificate.now (g.F.Folder.state c.args.folder.now) (g.F.Folder.state c.contents_of-3.new.folder)) (λ why u. u) tt _
    (unheld_behind c.args.source.now c.in_ok-source.source.items (g.F.Folder.state c.args.folder.now) (g.F.Folder.state c.contents_of.new.folder) (g.F.Folder.state c.contents_of-3.new.folder) c.in_ok-source.ensures.keeps c.in_ok-source.ensures.ok c.in_ok-source.ensures.fits c.in_ok-source.ensures.read
    operand.Certificate (c.args.schedule.now ∷ []) c.args.certificate.now _ (unheld_behind c.args.schedule.now c.in_ok-schedule.schedule.items (g.F.Folder.state c.contents_of.new.folder) (g.F.Folder.state c.contents_of-2.new.folder) (g.F.Folder.state c.contents_of-3.new.folder) c.in_ok-schedule.ensures.keeps c.in_ok-schedule.ensures.ok c.in_ok-schedule.ensures.fits c.in_ok-schedule.ensures.read
    operand.Certificate [] c.args.certificate.now _ c.in_err-certificate.ensures.err)))

pub returns-clause-reads : goal.returns-clause-reads
returns-clause-reads g c =
    in_order_behind c.args.source.now c.in_ok-source.source.items (c.args.schedule.now ∷ c.args.certificate.now ∷ []) (g.F.Folder.state c.args.folder.now) (g.F.Folder.state c.contents_of.new.folder) (g.F.Folder.state c.contents_of-3.new.folder) c.in_ok-source.ensures.read
    (in_order_behind c.args.schedule.now c.in_ok-schedule.schedule.items (c.args.certificate.now ∷ []) (g.F.Folder.state c.contents_of.new.folder) (g.F.Folder.state c.contents_of-2.new.folder) (g.F.Folder.state c.contents_of-3.new.folder) c.in_ok-schedule.ensures.read
    (once_in_order c.args.certificate.now [] (g.F.Folder.state c.contents_of-2.new.folder) (g.F.Folder.state c.contents_of-3.new.folder) c.in_ok-certificate.ensures.once))

pub returns-clause-ok : goal.returns-clause-ok
returns-clause-ok g c =
    replay_promised (g.F.Folder.state c.args.folder.now) (g.F.Folder.state c.contents_of-3.new.folder) c.args.source.now c.args.schedule.now c.args.certificate.now
    (replay_texts (g.F.Folder.state c.args.folder.now) (g.F.Folder.state c.contents_of.new.folder) (g.F.Folder.state c.contents_of-2.new.folder) (g.F.Folder.state c.contents_of-3.new.folder) c.args.source.now c.args.schedule.now c.args.certificate.now
    c.in_ok-source.source.items c.deref.result.now c.in_ok-schedule.schedule.items c.deref-2.result.now c.in_ok-certificate.certificate.items c.deref-3.result.now
    c.in_ok-source.ensures.ok c.in_ok-source.ensures.read c.deref.ensures.value c.in_ok-source.ensures.keeps.names
    c.in_ok-schedule.ensures.ok c.in_ok-schedule.ensures.read c.deref-2.ensures.value c.in_ok-schedule.ensures.keeps.names
    c.in_ok-certificate.ensures.ok c.in_ok-certificate.ensures.read c.deref-3.ensures.value)
    c.replay.result c.replay.ensures.ok

pub returns-clause-err : goal.returns-clause-err
returns-clause-err g c =
    replay_refused c.args.source.now c.args.schedule.now c.args.certificate.now (g.F.Folder.state c.args.folder.now) (g.F.Folder.state c.contents_of-3.new.folder)
    (replay_texts (g.F.Folder.state c.args.folder.now) (g.F.Folder.state c.contents_of.new.folder) (g.F.Folder.state c.contents_of-2.new.folder) (g.F.Folder.state c.contents_of-3.new.folder) c.args.source.now c.args.schedule.now c.args.certificate.now
    c.in_ok-source.source.items c.deref.result.now c.in_ok-schedule.schedule.items c.deref-2.result.now c.in_ok-certificate.certificate.items c.deref-3.result.now
    c.in_ok-source.ensures.ok c.in_ok-source.ensures.read c.deref.ensures.value c.in_ok-source.ensures.keeps.names
    c.in_ok-schedule.ensures.ok c.in_ok-schedule.ensures.read c.deref-2.ensures.value c.in_ok-schedule.ensures.keeps.names
    c.in_ok-certificate.ensures.ok c.in_ok-certificate.ensures.read c.deref-3.ensures.value)
    c.replay.result c.replay.ensures.err
