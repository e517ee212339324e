use Rattle.std.proofs.Common.{◌≤◌, length, map, sym, ap, ◌∙◌, subst, arith}
use Rattle.std.specs.Prelude.{List, IfNone}
use Rattle.affc_rows.specs.Forms.{columns_of}
use Rattle.affc_trace.specs.Inverses.{AreInverse}
use Rattle.affc_schedtext.specs.declared.terms.Term.{Term}
use Rattle.affc_schedtext.specs.Terms.{term}
use Rattle.affc_schedtext.specs.Rules.{form_over, statement_sides}
use Rattle.affc_schedtext.specs.Seen.{line_seen}
use Rattle.affc_schedtext.proofs.Scheduled.{columns_over}
use Rattle.affc_plan.specs.Lists.{are_slight_parts}
use Rattle.affc_plan.specs.Seen.{columns_seen}
use Rattle.affc_plan.proofs.MapLaws.{slight_lists, lists_are, same_pair}
use Rattle.affc_plan.proofs.Pairs.{pair_of_line}
use Rattle.affc_plan.proofs.maps.map_of.Goals as goal

pub forms-requires-clause-slight : goal.forms-requires-clause-slight
forms-requires-clause-slight c =
    let s = c.statement_sides-sides.result in
    let l = c.args.line.now in
    ap (are_slight_parts (columns_seen s.there)) c.as_slice.ensures ∙ (slight_lists s l (statement_sides c.args.outline.now c.args.components (line_seen l)) c.statement_sides-sides.ensures.sides c.requires.right.slight).0

pub forms-requires-2-clause-slight : goal.forms-requires-2-clause-slight
forms-requires-2-clause-slight c =
    let s = c.statement_sides-sides.result in
    let l = c.args.line.now in
    ap (are_slight_parts (columns_seen s.back)) c.as_slice-2.ensures ∙ (slight_lists s l (statement_sides c.args.outline.now c.args.components (line_seen l)) c.statement_sides-sides.ensures.sides c.requires.right.slight).1

pub first_lost-requires-clause-pair : goal.first_lost-requires-clause-pair
first_lost-requires-clause-pair c =
    let s = c.statement_sides-sides.result in
    let l = c.args.line.now in
    let t = statement_sides c.args.outline.now c.args.components (line_seen l) in
    let e = lists_are s l t c.as_slice-3.result.now c.as_slice-4.result.now c.statement_sides-sides.ensures.sides
    (c.as_slice-3.ensures ∙ c.in_ok-there.ensures ∙ ap (λ (es : List Term). map (form_over (columns_seen s.there)) (map term es)) c.as_slice.ensures)
    (c.as_slice-4.ensures ∙ c.in_ok-back.ensures ∙ ap (λ (es : List Term). map (form_over (columns_seen s.back)) (map term es)) c.as_slice-2.ensures) in
    same_pair t c.as_slice-3.result.now c.as_slice-4.result.now e.0 e.1 (pair_of_line c.args.outline.now c.args.components (line_seen l) c.requires.few c.requires.some c.requires.length c.requires.right)

pub first_lost-requires-clause-columns : goal.first_lost-requires-clause-columns
first_lost-requires-clause-columns c =
    let s = c.statement_sides-sides.result in
    let l = c.args.line.now in
    let some : 1 ≤ length (map term l.forms) = omega (arith, c.requires.some, c.requires.right.forms) in
    sym (ap columns_of (c.as_slice-3.ensures ∙ c.in_ok-there.ensures ∙ ap (λ (es : List Term). map (form_over (columns_seen s.there)) (map term es)) c.as_slice.ensures) ∙ columns_over (columns_seen s.there) (map term l.forms) some)

pub invariant_of-result : goal.invariant_of-result
invariant_of-result c =
    let s = c.statement_sides-sides.result in
    let l = c.args.line.now in
    let t = statement_sides c.args.outline.now c.args.components (line_seen l) in
    let e = lists_are s l t c.in_ok-there.there c.in_ok-back.back c.statement_sides-sides.ensures.sides
    (c.in_ok-there.ensures ∙ ap (λ (es : List Term). map (form_over (columns_seen s.there)) (map term es)) c.as_slice.ensures)
    (c.in_ok-back.ensures ∙ ap (λ (es : List Term). map (form_over (columns_seen s.back)) (map term es)) c.as_slice-2.ensures) in
    let p = same_pair t c.in_ok-there.there c.in_ok-back.back e.0 e.1 (pair_of_line c.args.outline.now c.args.components (line_seen l) c.requires.few c.requires.some c.requires.length c.requires.right) in
    let i : AreInverse c.as_slice-3.result.now c.as_slice-4.result.now = subst (λ o. IfNone o (AreInverse c.as_slice-3.result.now c.as_slice-4.result.now)) c.in-None.is c.in_ok-component.ensures.none in
    record {
      shaped = p.shaped;
      inverse_shaped = p.inverse_shaped;
      at_least_iterators = p.at_least_iterators;
      inverts = subst (λ fs. AreInverse fs c.in_ok-back.back) c.as_slice-3.ensures (subst (λ gs. AreInverse c.as_slice-3.result.now gs) c.as_slice-4.ensures i);
    }
