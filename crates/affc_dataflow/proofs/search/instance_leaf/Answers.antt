use Rattle.std.proofs.Common.{refl, sym, subst, ◌∙◌}
use Rattle.std.specs.Prelude.{IfSome}
use Rattle.affc_sched.proofs.PairLemmas.{stands_in}
use Rattle.affc_quast.specs.Trees.{Input}
use Rattle.affc_quast.specs.Seen.{seen}
use Rattle.affc_latest.specs.Stores.{IsReadFrom, IsWriterAt}
use Rattle.affc_dataflow.specs.Unwritten.{IsUnwritten, IfUnwritten}
use Rattle.affc_latest.proofs.BesideLemmas.{is_nest}
use Rattle.affc_dataflow.proofs.TreeLemmas.{named_covers, input_covers, is_unwritten}
use Rattle.affc_dataflow.proofs.search.instance_leaf.Goals as goal

pub returns-then-is_temporary-clause-unwritten : goal.returns-then-is_temporary-clause-unwritten
returns-then-is_temporary-clause-unwritten c =
    let l = c.args.load.now in
    subst (λ e. IfUnwritten e (IsUnwritten l.nest.now)) (sym c.in_ok-fault-in-None.ensures)
    (is_unwritten l.nest.now l.reader.now l.access.now l.number c.requires.load c.args.p.now c.args.iterators.now c.requires.params c.requires.loops c.requires.runs
    (subst (IsReadFrom l.nest.now l.reader.now l.access.now c.args.p.now c.args.iterators.now) c.in-None.is c.in_ok-instance.ensures.source) (sym c.is_temporary.ensures ∙ c.if-is_temporary.true))

pub returns-in_ok-leaf-in-Some-clause-right : goal.returns-in_ok-leaf-in-Some-clause-right
returns-in_ok-leaf-in-Some-clause-right c =
    let l = c.args.load.now in
    named_covers l.nest.now l.reader.now l.access.now l.number c.requires.load c.args.p.now c.args.iterators.now c.requires.params c.columns-columns.result c.in-Some.instance (seen c.in_ok-leaf-in-Some.leaf)
    (c.columns-columns.ensures.value ∙ (stands_in l.nest.now (is_nest l.nest.now c.requires.load.nested) l.reader.now c.requires.load.touched.there).columns) c.in_ok-leaf-in-Some.ensures
    (subst (IsReadFrom l.nest.now l.reader.now l.access.now c.args.p.now c.args.iterators.now) c.in-Some.is c.in_ok-instance.ensures.source)
    (subst (λ o. IfSome o (IsWriterAt l.nest.now l.access.now.array.0)) c.in-Some.is c.in_ok-instance.ensures.writer)

pub returns-else-is_temporary-clause-right : goal.returns-else-is_temporary-clause-right
returns-else-is_temporary-clause-right c =
    let l = c.args.load.now in
    input_covers l.nest.now l.reader.now l.access.now l.number c.requires.load c.args.p.now c.args.iterators.now c.requires.params Input refl
    (subst (IsReadFrom l.nest.now l.reader.now l.access.now c.args.p.now c.args.iterators.now) c.in-None.is c.in_ok-instance.ensures.source) (sym c.is_temporary.ensures ∙ c.if-is_temporary.false)
