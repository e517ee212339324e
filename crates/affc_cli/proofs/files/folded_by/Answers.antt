use Rattle.std.specs.Prelude.{option_map}
use Rattle.std.proofs.Common.{[], ◌∷◌, Some}
use Rattle.std.proofs.lemmas.Result.{err_from_is_err_and}
use Rattle.affc_lines.specs.declared.refusal.Operand.TheVariants as operand
use Rattle.affc_cli.specs.Refusal.{FoldCause}
use Rattle.affc_cli.proofs.Reading.{once_in_order, in_order_behind, unheld, unheld_behind, with_schedule, fold_promised, fold_refused}
use Rattle.affc_cli.proofs.files.folded_by.Goals as goal

pub returns-in_err-source-clause-reads : goal.returns-in_err-source-clause-reads
returns-in_err-source-clause-reads g c =
    once_in_order c.args.source.now (c.args.schedule.now ∷ []) (g.F.Folder.state c.args.folder.now) (g.F.Folder.state c.contents_of.new.folder) c.in_err-source.ensures.once

pub returns-in_err-source-clause-err : goal.returns-in_err-source-clause-err
returns-in_err-source-clause-err g c =
    let p = err_from_is_err_and c.from_residual.result c.from_residual.ensures.1 in
    rw (p.1, p.2)
    (unheld operand.Source [] c.args.source.now (g.F.Folder.state c.args.folder.now) (g.F.Folder.state c.contents_of.new.folder) (λ refusal. FoldCause refusal c.args.source.now (Some c.args.schedule.now) c.args.settings (g.F.Folder.state c.args.folder.now) (g.F.Folder.state c.contents_of.new.folder)) (λ why u. u) tt _
    c.in_err-source.ensures.err)

pub returns-in_err-schedule-clause-reads : goal.returns-in_err-schedule-clause-reads
returns-in_err-schedule-clause-reads g c =
    in_order_behind c.args.source.now c.in_ok-source.source.items (c.args.schedule.now ∷ []) (g.F.Folder.state c.args.folder.now) (g.F.Folder.state c.contents_of.new.folder) (g.F.Folder.state c.contents_of-2.new.folder) c.in_ok-source.ensures.read
    (once_in_order c.args.schedule.now [] (g.F.Folder.state c.contents_of.new.folder) (g.F.Folder.state c.contents_of-2.new.folder) c.in_err-schedule.ensures.once)

pub returns-in_err-schedule-clause-err : goal.returns-in_err-schedule-clause-err
returns-in_err-schedule-clause-err g c =
    let p = err_from_is_err_and c.from_residual-in_err-schedule.result c.from_residual-in_err-schedule.ensures.1 in
    rw (p.1, p.2)
    (unheld operand.Schedule (c.args.source.now ∷ []) c.args.schedule.now (g.F.Folder.state c.args.folder.now) (g.F.Folder.state c.contents_of-2.new.folder) (λ refusal. FoldCause refusal c.args.source.now (Some c.args.schedule.now) c.args.settings (g.F.Folder.state c.args.folder.now) (g.F.Folder.state c.contents_of-2.new.folder)) (λ why u. u) tt _
    (unheld_behind c.args.source.now c.in_ok-source.source.items (g.F.Folder.state c.args.folder.now) (g.F.Folder.state c.contents_of.new.folder) (g.F.Folder.state c.contents_of-2.new.folder) c.in_ok-source.ensures.keeps c.in_ok-source.ensures.ok c.in_ok-source.ensures.fits c.in_ok-source.ensures.read
    operand.Schedule [] c.args.schedule.now _ c.in_err-schedule.ensures.err))

pub returns-clause-reads : goal.returns-clause-reads
returns-clause-reads g c =
    in_order_behind c.args.source.now c.in_ok-source.source.items (c.args.schedule.now ∷ []) (g.F.Folder.state c.args.folder.now) (g.F.Folder.state c.contents_of.new.folder) (g.F.Folder.state c.contents_of-2.new.folder) c.in_ok-source.ensures.read
    (once_in_order c.args.schedule.now [] (g.F.Folder.state c.contents_of.new.folder) (g.F.Folder.state c.contents_of-2.new.folder) c.in_ok-schedule.ensures.once)

pub returns-clause-ok : goal.returns-clause-ok
returns-clause-ok g c =
    fold_promised (g.F.Folder.state c.args.folder.now) (g.F.Folder.state c.contents_of-2.new.folder) c.args.source.now (Some c.args.schedule.now) c.args.settings (option_map (λ s. s.now) c.args.file)
    (with_schedule (g.F.Folder.state c.args.folder.now) (g.F.Folder.state c.contents_of.new.folder) (g.F.Folder.state c.contents_of-2.new.folder) c.args.source.now c.args.schedule.now
    c.in_ok-source.source.items c.deref.result.now c.in_ok-schedule.schedule.items c.deref-2.result.now
    c.in_ok-source.ensures.ok c.in_ok-source.ensures.read c.deref.ensures.value c.in_ok-source.ensures.keeps.names
    c.in_ok-schedule.ensures.ok c.in_ok-schedule.ensures.read c.deref-2.ensures.value)
    c.fold.result c.fold.ensures.ok

pub returns-clause-err : goal.returns-clause-err
returns-clause-err g c =
    fold_refused c.args.source.now (Some c.args.schedule.now) c.args.settings (g.F.Folder.state c.args.folder.now) (g.F.Folder.state c.contents_of-2.new.folder)
    (with_schedule (g.F.Folder.state c.args.folder.now) (g.F.Folder.state c.contents_of.new.folder) (g.F.Folder.state c.contents_of-2.new.folder) c.args.source.now c.args.schedule.now
    c.in_ok-source.source.items c.deref.result.now c.in_ok-schedule.schedule.items c.deref-2.result.now
    c.in_ok-source.ensures.ok c.in_ok-source.ensures.read c.deref.ensures.value c.in_ok-source.ensures.keeps.names
    c.in_ok-schedule.ensures.ok c.in_ok-schedule.ensures.read c.deref-2.ensures.value)
    c.fold.result c.fold.ensures.err
