use Rattle.std.proofs.Common.{[], ◌∷◌}
use Rattle.std.proofs.lemmas.Result.{err_from_is_err_and}
use Rattle.affc_lines.specs.declared.refusal.Operand.TheVariants as operand
use Rattle.affc_cli.specs.Refusal.{RunCause}
use Rattle.affc_cli.proofs.Reading.{once_in_order, in_order_behind, unheld, unheld_behind, texts, run_promised, run_caused}
use Rattle.affc_cli.proofs.files.ran.Goals as goal

pub returns-in_err-source-clause-reads : goal.returns-in_err-source-clause-reads
returns-in_err-source-clause-reads g c =
    once_in_order c.args.source.now (c.args.feed.now ∷ []) (g.F.Folder.state c.args.folder.now) (g.F.Folder.state c.contents_of.new.folder) c.in_err-source.ensures.once

pub returns-in_err-source-clause-err : goal.returns-in_err-source-clause-err
returns-in_err-source-clause-err g c =
    let p = err_from_is_err_and c.from_residual.result c.from_residual.ensures.1 in
    rw (p.1, p.2)
    (unheld operand.Source [] c.args.source.now (g.F.Folder.state c.args.folder.now) (g.F.Folder.state c.contents_of.new.folder) (λ refusal. RunCause refusal c.args.source.now c.args.feed.now c.args.limit (g.F.Folder.state c.args.folder.now) (g.F.Folder.state c.contents_of.new.folder)) (λ why u. u) tt _
    c.in_err-source.ensures.err)

pub returns-in_err-feed-clause-reads : goal.returns-in_err-feed-clause-reads
returns-in_err-feed-clause-reads g c =
    in_order_behind c.args.source.now c.in_ok-source.source.items (c.args.feed.now ∷ []) (g.F.Folder.state c.args.folder.now) (g.F.Folder.state c.contents_of.new.folder) (g.F.Folder.state c.contents_of-2.new.folder) c.in_ok-source.ensures.read
    (once_in_order c.args.feed.now [] (g.F.Folder.state c.contents_of.new.folder) (g.F.Folder.state c.contents_of-2.new.folder) c.in_err-feed.ensures.once)

pub returns-in_err-feed-clause-err : goal.returns-in_err-feed-clause-err
returns-in_err-feed-clause-err g c =
    let p = err_from_is_err_and c.from_residual-in_err-feed.result c.from_residual-in_err-feed.ensures.1 in
    rw (p.1, p.2)
    (unheld operand.Data (c.args.source.now ∷ []) c.args.feed.now (g.F.Folder.state c.args.folder.now) (g.F.Folder.state c.contents_of-2.new.folder) (λ refusal. RunCause refusal c.args.source.now c.args.feed.now c.args.limit (g.F.Folder.state c.args.folder.now) (g.F.Folder.state c.contents_of-2.new.folder)) (λ why u. u) tt _
    (unheld_behind c.args.source.now c.in_ok-source.source.items (g.F.Folder.state c.args.folder.now) (g.F.Folder.state c.contents_of.new.folder) (g.F.Folder.state c.contents_of-2.new.folder) c.in_ok-source.ensures.keeps c.in_ok-source.ensures.ok c.in_ok-source.ensures.fits c.in_ok-source.ensures.read
    operand.Data [] c.args.feed.now _ c.in_err-feed.ensures.err))

pub returns-clause-reads : goal.returns-clause-reads
returns-clause-reads g c =
    in_order_behind c.args.source.now c.in_ok-source.source.items (c.args.feed.now ∷ []) (g.F.Folder.state c.args.folder.now) (g.F.Folder.state c.contents_of.new.folder) (g.F.Folder.state c.contents_of-2.new.folder) c.in_ok-source.ensures.read
    (once_in_order c.args.feed.now [] (g.F.Folder.state c.contents_of.new.folder) (g.F.Folder.state c.contents_of-2.new.folder) c.in_ok-feed.ensures.once)

pub returns-clause-ok : goal.returns-clause-ok
returns-clause-ok g c =
    run_promised (g.F.Folder.state c.args.folder.now) (g.F.Folder.state c.contents_of-2.new.folder) c.args.source.now c.args.feed.now c.args.limit
    (texts (g.F.Folder.state c.args.folder.now) (g.F.Folder.state c.contents_of.new.folder) (g.F.Folder.state c.contents_of-2.new.folder) c.args.source.now c.args.feed.now
    c.in_ok-source.source.items c.deref.result.now c.in_ok-feed.feed.items c.deref-2.result.now
    c.in_ok-source.ensures.ok c.in_ok-source.ensures.read c.deref.ensures.value c.in_ok-source.ensures.keeps.names
    c.in_ok-feed.ensures.ok c.in_ok-feed.ensures.read c.deref-2.ensures.value)
    c.run_text.result c.run_text.ensures.ok c.run_text.ensures.no_report

pub returns-clause-err : goal.returns-clause-err
returns-clause-err g c =
    run_caused c.args.source.now c.args.feed.now c.args.limit (g.F.Folder.state c.args.folder.now) (g.F.Folder.state c.contents_of-2.new.folder)
    (texts (g.F.Folder.state c.args.folder.now) (g.F.Folder.state c.contents_of.new.folder) (g.F.Folder.state c.contents_of-2.new.folder) c.args.source.now c.args.feed.now
    c.in_ok-source.source.items c.deref.result.now c.in_ok-feed.feed.items c.deref-2.result.now
    c.in_ok-source.ensures.ok c.in_ok-source.ensures.read c.deref.ensures.value c.in_ok-source.ensures.keeps.names
    c.in_ok-feed.ensures.ok c.in_ok-feed.ensures.read c.deref-2.ensures.value)
    c.run_text.result c.run_text.ensures.err
