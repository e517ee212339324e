use Rattle.std.proofs.Common.{subst}
use Rattle.std.specs.List.{All}
use Rattle.affc_system.specs.Systems.{IsRow}
use Rattle.affc_dataflow.proofs.GuessLemmas.{rows_wide, input_right}
use Rattle.affc_dataflow.proofs.tested.input_leaf.Goals as goal

pub returns-then-branch-clause-right : goal.returns-then-branch-clause-right
returns-then-branch-clause-right c =
    let l = c.args.load.now in
    let p = c.args.place.now.path.now in
    input_right l.nest.now l.reader.now l.access.now l.number c.requires.load p c.args.place.now.ranges.now
    (rows_wide p.columns p.rows (subst (λ rows. All (IsRow p.columns) rows) c.rows-rows.ensures.rows c.rows-rows.ensures.fit))
    (c.in_ok-is_input.ensures.none c.if-branch.true)
