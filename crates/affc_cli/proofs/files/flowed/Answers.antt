use Rattle.std.proofs.Common.{[]}
use Rattle.std.proofs.lemmas.Result.{err_from_is_err_and}
use Rattle.affc_lines.specs.declared.refusal.Operand.TheVariants as operand
use Rattle.affc_cli.specs.Refusal.{FlowCause}
use Rattle.affc_cli.proofs.Reading.{once_in_order, unheld, the_source, flow_promised, flow_refused}
use Rattle.affc_cli.proofs.files.flowed.Goals as goal

pub returns-in_err-source-clause-reads : goal.returns-in_err-source-clause-reads
returns-in_err-source-clause-reads g c =
    once_in_order c.args.source.now [] (g.F.Folder.state c.args.folder.now) (g.F.Folder.state c.contents_of.new.folder) c.in_err-source.ensures.once

pub returns-in_err-source-clause-err : goal.returns-in_err-source-clause-err
returns-in_err-source-clause-err g c =
    let p = err_from_is_err_and c.from_residual.result c.from_residual.ensures.1 in
    rw (p.1, p.2)
    (unheld operand.Source [] c.args.source.now (g.F.Folder.state c.args.folder.now) (g.F.Folder.state c.contents_of.new.folder) (λ refusal. FlowCause refusal c.args.source.now (g.F.Folder.state c.args.folder.now) (g.F.Folder.state c.contents_of.new.folder)) (λ why u. u) tt _
    c.in_err-source.ensures.err)

pub returns-clause-reads : goal.returns-clause-reads
returns-clause-reads g c =
    once_in_order c.args.source.now [] (g.F.Folder.state c.args.folder.now) (g.F.Folder.state c.contents_of.new.folder) c.in_ok-source.ensures.once

pub returns-clause-ok : goal.returns-clause-ok
returns-clause-ok g c =
    flow_promised (g.F.Folder.state c.args.folder.now) (g.F.Folder.state c.contents_of.new.folder) c.args.source.now
    (the_source (g.F.Folder.state c.args.folder.now) (g.F.Folder.state c.contents_of.new.folder) c.args.source.now
    c.in_ok-source.source.items c.deref.result.now
    c.in_ok-source.ensures.ok c.in_ok-source.ensures.read c.deref.ensures.value)
    c.trees.result c.trees.ensures.ok c.trees.ensures.no_report

pub returns-clause-err : goal.returns-clause-err
returns-clause-err g c =
    flow_refused c.args.source.now (g.F.Folder.state c.args.folder.now) (g.F.Folder.state c.contents_of.new.folder)
    (the_source (g.F.Folder.state c.args.folder.now) (g.F.Folder.state c.contents_of.new.folder) c.args.source.now
    c.in_ok-source.source.items c.deref.result.now
    c.in_ok-source.ensures.ok c.in_ok-source.ensures.read c.deref.ensures.value)
    c.trees.result c.trees.ensures.err
