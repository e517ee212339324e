use Rattle.std.proofs.Common.{sym, subst}
use Rattle.std.specs.List.{All}
use Rattle.std.proofs.lemmas.Result.{IfOk-weaker}
use Rattle.affc_system.specs.Systems.{IsRow}
use Rattle.affc_questions.proofs.DistanceLemmas.{straight_at, turned_at, all_elements, shown_tail_fits}
use Rattle.affc_questions.proofs.distances.shown_rows.Goals as goal

pub shown-requires-clause-elements : goal.shown-requires-clause-elements
shown-requires-clause-elements c = turned_at c.args.rows.now c.args.row.now c.args.modulus.now c.args.pair.now c.requires c.as_slice-xs.result.now c.as_slice-ys.result.now c.as_slice-xs.ensures.value c.as_slice-ys.ensures.value

pub shown-requires-else-turned-clause-elements : goal.shown-requires-else-turned-clause-elements
shown-requires-else-turned-clause-elements c = straight_at c.args.rows.now c.args.row.now c.args.modulus.now c.args.pair.now c.requires c.as_slice-xs.result.now c.as_slice-ys.result.now c.as_slice-xs.ensures.value c.as_slice-ys.ensures.value

pub returns-then-turned-clause-rows : goal.returns-then-turned-clause-rows
returns-then-turned-clause-rows c =
    let s = c.args.pair.now in
    IfOk-weaker c.shown.result _ _
    (λ r h. subst (All (IsRow s.system.columns)) (sym h)
    (shown_tail_fits c.args.rows.now c.args.k c.args.row.now c.args.modulus.now s c.as_slice-ys.result.now c.as_slice-xs.result.now (all_elements c.args.rows.now c.args.row.now c.args.modulus.now s c.requires)
    (turned_at c.args.rows.now c.args.row.now c.args.modulus.now s c.requires c.as_slice-xs.result.now c.as_slice-ys.result.now c.as_slice-xs.ensures.value c.as_slice-ys.ensures.value) c.requires.over)) c.shown.ensures

pub returns-else-turned-clause-rows : goal.returns-else-turned-clause-rows
returns-else-turned-clause-rows c =
    let s = c.args.pair.now in
    IfOk-weaker c.shown-else-turned.result _ _
    (λ r h. subst (All (IsRow s.system.columns)) (sym h)
    (shown_tail_fits c.args.rows.now c.args.k c.args.row.now c.args.modulus.now s c.as_slice-xs.result.now c.as_slice-ys.result.now (all_elements c.args.rows.now c.args.row.now c.args.modulus.now s c.requires)
    (straight_at c.args.rows.now c.args.row.now c.args.modulus.now s c.requires c.as_slice-xs.result.now c.as_slice-ys.result.now c.as_slice-xs.ensures.value c.as_slice-ys.ensures.value) c.requires.over)) c.shown-else-turned.ensures
