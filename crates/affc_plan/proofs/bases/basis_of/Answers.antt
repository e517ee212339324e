use Rattle.std.proofs.Common.{map, ap, ◌∙◌}
use Rattle.affc_schedtext.specs.declared.terms.Term.{Term}
use Rattle.affc_schedtext.specs.Terms.{term}
use Rattle.affc_schedtext.specs.Rules.{form_over, fold_sides}
use Rattle.affc_schedtext.specs.Seen.{line_seen}
use Rattle.std.specs.Prelude.{List}
use Rattle.affc_plan.specs.Lists.{are_slight_parts}
use Rattle.affc_plan.specs.Seen.{columns_seen}
use Rattle.affc_plan.proofs.MapLaws.{slight_lists, lists_are, same_given, given_of_fold}
use Rattle.affc_plan.proofs.bases.basis_of.Goals as goal

pub forms-requires-clause-slight : goal.forms-requires-clause-slight
forms-requires-clause-slight c =
    let s = c.fold_sides-sides.result in
    let l = c.args.line.now in
    ap (are_slight_parts (columns_seen s.there)) c.as_slice.ensures ∙ (slight_lists s l (fold_sides c.args.outline.now (line_seen l)) c.fold_sides-sides.ensures.sides c.requires.right.slight).0

pub forms-requires-2-clause-slight : goal.forms-requires-2-clause-slight
forms-requires-2-clause-slight c =
    let s = c.fold_sides-sides.result in
    let l = c.args.line.now in
    ap (are_slight_parts (columns_seen s.back)) c.as_slice-2.ensures ∙ (slight_lists s l (fold_sides c.args.outline.now (line_seen l)) c.fold_sides-sides.ensures.sides c.requires.right.slight).1

pub given-requires-clause-square : goal.given-requires-clause-square
given-requires-clause-square c =
    let s = c.fold_sides-sides.result in
    let l = c.args.line.now in
    let t = fold_sides c.args.outline.now (line_seen l) in
    let e = lists_are s l t c.in_ok-rows.rows c.in_ok-inverse.inverse c.fold_sides-sides.ensures.sides
    (c.in_ok-rows.ensures ∙ ap (λ (es : List Term). map (form_over (columns_seen s.there)) (map term es)) c.as_slice.ensures)
    (c.in_ok-inverse.ensures ∙ ap (λ (es : List Term). map (form_over (columns_seen s.back)) (map term es)) c.as_slice-2.ensures) in
    (same_given t c.in_ok-rows.rows c.in_ok-inverse.inverse e.0 e.1 (given_of_fold c.args.outline.now (line_seen l) c.requires.few c.requires.right)).square

pub given-requires-clause-row_bounds : goal.given-requires-clause-row_bounds
given-requires-clause-row_bounds c =
    let s = c.fold_sides-sides.result in
    let l = c.args.line.now in
    let t = fold_sides c.args.outline.now (line_seen l) in
    let e = lists_are s l t c.in_ok-rows.rows c.in_ok-inverse.inverse c.fold_sides-sides.ensures.sides
    (c.in_ok-rows.ensures ∙ ap (λ (es : List Term). map (form_over (columns_seen s.there)) (map term es)) c.as_slice.ensures)
    (c.in_ok-inverse.ensures ∙ ap (λ (es : List Term). map (form_over (columns_seen s.back)) (map term es)) c.as_slice-2.ensures) in
    (same_given t c.in_ok-rows.rows c.in_ok-inverse.inverse e.0 e.1 (given_of_fold c.args.outline.now (line_seen l) c.requires.few c.requires.right)).row_bounds

pub given-requires-clause-inverse_bounds : goal.given-requires-clause-inverse_bounds
given-requires-clause-inverse_bounds c =
    let s = c.fold_sides-sides.result in
    let l = c.args.line.now in
    let t = fold_sides c.args.outline.now (line_seen l) in
    let e = lists_are s l t c.in_ok-rows.rows c.in_ok-inverse.inverse c.fold_sides-sides.ensures.sides
    (c.in_ok-rows.ensures ∙ ap (λ (es : List Term). map (form_over (columns_seen s.there)) (map term es)) c.as_slice.ensures)
    (c.in_ok-inverse.ensures ∙ ap (λ (es : List Term). map (form_over (columns_seen s.back)) (map term es)) c.as_slice-2.ensures) in
    (same_given t c.in_ok-rows.rows c.in_ok-inverse.inverse e.0 e.1 (given_of_fold c.args.outline.now (line_seen l) c.requires.few c.requires.right)).inverse_bounds
