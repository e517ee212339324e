use Rattle.std.proofs.Common.{sym, subst, ◌∙◌}
use Rattle.std.specs.List.{All}
use Rattle.affc_rows.specs.Forms.{HaveColumns}
use Rattle.affc_system.specs.Systems.{IsRow}
use Rattle.affc_quast.specs.Trees.{Source}
use Rattle.affc_dataflow.specs.Guesses.{CoversOn}
use Rattle.affc_dataflow.proofs.GuessLemmas.{rows_wide, source_right}
use Rattle.affc_dataflow.proofs.tested.source_leaf.Goals as goal

pub returns-clause-right : goal.returns-clause-right
returns-clause-right c =
    let l = c.args.load.now in
    let p = c.args.place.now.path.now in
    let r = c.args.place.now.ranges.now in
    let w = c.args.writer.now in
    let forms = c.args.forms.now in
    subst (λ fs. CoversOn l.nest.now l.reader.now l.access.now p r 0 0 (Source w.part fs)) (sym c.in_ok-forms.ensures)
    (source_right l.nest.now l.reader.now l.access.now l.number c.requires.load p r
    (rows_wide p.columns p.rows (subst (λ rows. All (IsRow p.columns) rows) c.rows-rows.ensures.rows c.rows-rows.ensures.fit))
    w c.args.store.now c.requires.writes forms
    (subst (λ n. HaveColumns n forms) c.columns-columns.ensures.value (c.have_columns.ensures c.if-not-have_columns.false))
    (c.if-forms-coordinates.false ∙ c.coordinates.ensures)
    (c.keep_limits.ensures c.if-not-keep_limits.false)
    (c.in_ok-is_source.ensures.none c.if-not-branch.false))
