use Rattle.std.proofs.Common.{◌≡◌, ◌+◌, ◌-◌, ◌<◌, false, ◌++◌, length, sym, ap, ◌∙◌, subst, arith}
use Rattle.std.proofs.lemmas.Bool.{false≢true}
use Rattle.affc_rows.specs.Forms.{composed_form}
use Rattle.affc_trace.specs.Inverses.{column, columns_from}
use Rattle.affc_plan.specs.Composed.{IsComposable}
use Rattle.affc_plan.proofs.Composable.{images_of, composable, got_at, gives_here, lost_here, given_all, given_more}
use Rattle.affc_plan.proofs.maps.first_lost.Goals as goal

pub gives_column-requires : goal.gives_column-requires
gives_column-requires c =
    let forms = c.args.forms.now in
    let inverse = c.args.inverse.now in
    let k = c.loop-k.k in
    let g = c.index-inverse-k.result in
    let lt : k < length inverse = omega arith in
    let images : c.as_slice.result.now ≡ images_of forms inverse = c.as_slice.ensures ∙ c.in_ok-images.ensures ∙ ap (λ n. columns_from n 0 (n - length inverse) ++ forms) c.requires.columns in
    subst (λ xs. IsComposable g xs) (sym images) (composable forms inverse k g c.requires.pair (got_at inverse k g lt c.index-inverse-k.is))

pub returns-then-not-branch-clause-lost : goal.returns-then-not-branch-clause-lost
returns-then-not-branch-clause-lost c =
    let forms = c.args.forms.now in
    let inverse = c.args.inverse.now in
    let k = c.loop-k.k in
    let g = c.index-inverse-k.result in
    let lt : k < length inverse = omega arith in
    let images : c.as_slice.result.now ≡ images_of forms inverse = c.as_slice.ensures ∙ c.in_ok-images.ensures ∙ ap (λ n. columns_from n 0 (n - length inverse) ++ forms) c.requires.columns in
    let none : c.in_ok-gives_column.field-0 ≡ false = c.if-not-branch.true in
    record {
      within = lt;
      lost = lost_here forms inverse k g lt c.index-inverse-k.is (λ h. false≢true (sym none ∙ c.in_ok-gives_column.ensures.1 (ap (λ xs. composed_form g xs) images ∙ h ∙ sym (ap (λ n. column n (n - length inverse + k)) c.requires.columns))));
      before = c.loop-k.invariant;
    }

pub loop-k-preserved : goal.loop-k-preserved
loop-k-preserved c =
    let forms = c.args.forms.now in
    let inverse = c.args.inverse.now in
    let k = c.loop-k.k in
    let g = c.index-inverse-k.result in
    let lt : k < length inverse = omega arith in
    let images : c.as_slice.result.now ≡ images_of forms inverse = c.as_slice.ensures ∙ c.in_ok-images.ensures ∙ ap (λ n. columns_from n 0 (n - length inverse) ++ forms) c.requires.columns in
    given_more forms inverse k c.loop-k.invariant
    (gives_here forms inverse k g lt c.index-inverse-k.is (ap (λ xs. composed_form g xs) (sym images) ∙ c.in_ok-gives_column.ensures.0 c.if-not-branch.false ∙ ap (λ n. column n (n - length inverse + k)) c.requires.columns))

pub returns-clause-none : goal.returns-clause-none
returns-clause-none c = given_all c.args.forms.now c.args.inverse.now (λ j lt. c.loop-k.invariant j (omega (arith, lt)))
