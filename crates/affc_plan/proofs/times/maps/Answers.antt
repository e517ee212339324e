use Rattle.std.proofs.Common.{ℕ, ◌+◌, ◌<◌, ◌∷◌, [], length, map, sym, subst, ap, ◌∙◌, arith, length-append}
use Rattle.affc_schedtext.specs.Rules.{statement_sides, statements_in}
use Rattle.affc_schedtext.specs.Seen.{line_seen}
use Rattle.affc_schedtext.proofs.Scheduled.{all_there}
use Rattle.affc_plan.specs.Maps.{LostIn}
use Rattle.affc_plan.specs.Times.{HasMap}
use Rattle.affc_plan.proofs.LineLaws.{lines_any}
use Rattle.affc_plan.proofs.TimeLaws.{right_of, one_more, maps_each, not_lost}
use Rattle.affc_plan.proofs.times.maps.Goals as goal

pub line_of-at-requires : goal.line_of-at-requires
line_of-at-requires c =
    let o = c.args.outline.now in
    let ls = c.args.lines.now in
    let less = c.loop-number-test.true in
    let end = c.len-number-end.ensures in
    lines_any o c.loop-number.number ls ∙ all_there (length o.statements) (statements_in o (map line_seen ls)) c.loop-number.number c.requires.whole (omega arith)

pub map_of-requires-clause-right : goal.map_of-requires-clause-right
map_of-requires-clause-right c =
    right_of c.args.outline.now c.args.components c.args.lines.now c.line_of-at.result c.index-lines-at.result c.line_of-at.ensures.within c.index-lines-at.is c.requires.right

pub unreachable-requires : goal.unreachable-requires
unreachable-requires c =
    let o = c.args.outline.now in
    let n = c.args.components in
    let l = c.index-lines-at.result in
    not_lost o n c.args.lines.now c.line_of-at.result l c.in-Err-Component.field-0-0 c.line_of-at.ensures.within c.index-lines-at.is c.in_ok-all_undone.ensures.undone
    (subst (LostIn (statement_sides o n (line_seen l))) c.in-Err-Component.field-0-is c.in-Err-Component.ensures.lost)

pub loop-number-preserved : goal.loop-number-preserved
loop-number-preserved c =
    let o = c.args.outline.now in
    let n = c.args.components in
    let ls = c.args.lines.now in
    let maps = c.loop-number.maps in
    let l = c.index-lines-at.result in
    let more = c.in_ok-push-in-Ok.ensures.ok in
    let so_far = c.loop-number.invariant.long in
    record {
      long = ap length more ∙ length-append maps (c.in-Ok.map ∷ []) ∙ ap (λ k. k + 1) so_far;
      each = subst (λ ms. (s : ℕ) → s < c.loop-number.number + 1 → HasMap o n ls ms s) (sym more)
          (one_more o n ls maps c.in-Ok.map c.loop-number.number c.line_of-at.result l so_far c.loop-number.invariant.each c.line_of-at.ensures.within c.index-lines-at.is (c.line_of-at.ensures.of l) c.in-Ok.ensures.map);
    }

pub returns-clause-maps : goal.returns-clause-maps
returns-clause-maps c =
    let o = c.args.outline.now in
    let long = c.loop-number.invariant.long in
    let over = c.loop-number-test.false in
    let up = c.loop-number.auto.number-end in
    let end = c.len-number-end.ensures in
    (omega arith, maps_each o c.args.components c.args.lines.now c.loop-number.maps c.requires.right c.requires.once (λ s lt. c.loop-number.invariant.each s (omega (arith, lt))))
