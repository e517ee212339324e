use Rattle.std.proofs.Common.{◌≤◌, [], map, sym, subst, ◌∙◌}
use Rattle.std.specs.List.{All}
use Rattle.affc_system.specs.Systems.{IsRow}
use Rattle.affc_quast.specs.SeenLeaves.{division_seen, named_seen}
use Rattle.affc_questions.specs.Asked.{IsLeafOf}
use Rattle.affc_dataflow.proofs.GuessLemmas.{rows_wide, leaf_is_of}
use Rattle.affc_dataflow.proofs.asked.leaf_of.Goals as goal

pub returns-clause-leaf : goal.returns-clause-leaf
returns-clause-leaf c =
    let l = c.args.load.now in
    let p = c.args.path.now in
    let columns = c.columns-columns.ensures.value in
    let rows = c.in_ok-rows.ensures ∙ c.in-Some.ensures.rows in
    subst (IsLeafOf l.nest.now l.reader.now l.access.now) (λ i. record { columns = sym columns i; rows = sym rows i; divisions = map division_seen (sym c.new-divisions.ensures i); named = named_seen c.args.named })
    (leaf_is_of l.nest.now l.reader.now l.access.now l.number c.requires.load p []
    (rows_wide p.columns p.rows (subst (λ rows. All (IsRow p.columns) rows) c.rows-rows.ensures.rows c.rows-rows.ensures.fit))
    (named_seen c.args.named) c.in-Some.ensures.first (subst (λ n. n ≤ 128) columns c.columns-columns.ensures.few) c.requires.named)
