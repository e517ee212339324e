use Rattle.std.proofs.Common.{◌≡◌, ◌≤◌, length, map, rules, sym, ap, subst, ◌∙◌}
use Rattle.std.specs.List.{All}
use Rattle.affc_domain.specs.Affine.{form_of}
use Rattle.affc_domain.proofs.Lists.{length_map}
use Rattle.affc_rewrite.specs.Sizes.{IsRow}
use Rattle.affc_rewrite.proofs.Foldings.{access_fits, rows_fit, few_rows}
use Rattle.affc_rewrite.proofs.subscripts.by_rows.Goals as goal

pub add_components-requires-clause-access : goal.add_components-requires-clause-access
add_components-requires-clause-access c =
    let forms : c.as_slice.result.now ≡ map (form_of c.args.names 0) c.args.subs.now =
    first_of (cc (c.as_slice.ensures, c.in_ok-forms.ensures), search (rules, c.as_slice.ensures, c.in_ok-forms.ensures), cc (c.as_slice.ensures, c.in_ok-forms.ensures, c.forms-2.view_is)) in
    let few : length c.args.subs.now ≤ 4 = subst (λ n. n ≤ 4) (sym c.requires.same) (few_rows c.args.fold.now) in
    access_fits (record { parameters = c.args.parameters; names = c.args.names; forms = c.as_slice.result }) c.args.subs.now c.requires.plain forms c.requires.some few c.requires.few c.requires.behind c.requires.short

pub add_components-requires-clause-rows : goal.add_components-requires-clause-rows
add_components-requires-clause-rows c =
    let forms : c.as_slice.result.now ≡ map (form_of c.args.names 0) c.args.subs.now =
    first_of (cc (c.as_slice.ensures, c.in_ok-forms.ensures), search (rules, c.as_slice.ensures, c.in_ok-forms.ensures), cc (c.as_slice.ensures, c.in_ok-forms.ensures, c.forms-2.view_is)) in
    let rows : c.as_slice-rows.result.now ≡ c.args.fold.now.basis.rows = first_of (cc (c.as_slice-rows.ensures), search (rules, c.as_slice-rows.ensures)) in
    let count : length c.as_slice.result.now ≡ length c.args.fold.now.basis.rows = ap length forms ∙ length_map (form_of c.args.names 0) c.args.subs.now ∙ c.requires.same in
    subst (All (IsRow (length c.as_slice.result.now))) (sym rows) (rows_fit c.args.fold.now (length c.as_slice.result.now) count)
