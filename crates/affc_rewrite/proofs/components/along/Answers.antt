use Rattle.std.proofs.Common.{◌≡◌, sym, subst}
use Rattle.std.specs.Prelude.{IfOk}
use Rattle.std.proofs.lemmas.Result.{IfOk-weaker}
use Rattle.affc_rows.specs.Vocabulary.{form_at}
use Rattle.affc_rewrite.specs.Sizes.{IsPrintable}
use Rattle.affc_rewrite.proofs.PrintedForms.{have_columns, columns_known}
use Rattle.affc_rewrite.proofs.RowSizes.{row_fits, row_printable}
use Rattle.affc_rewrite.proofs.components.along.Goals as goal

pub at_images-requires-clause-one_each : goal.at_images-requires-clause-one_each
at_images-requires-clause-one_each c = sym c.requires.row.columns

pub at_images-requires-clause-equal_columns : goal.at_images-requires-clause-equal_columns
at_images-requires-clause-equal_columns c = have_columns c.args.access.now.names c.args.access.now.forms.now c.requires.access.sides

pub at_images-requires-clause-fits : goal.at_images-requires-clause-fits
at_images-requires-clause-fits c = row_fits c.args.access.now.names c.args.row.now c.args.access.now.forms.now c.requires.row c.requires.access.sides c.requires.access.few

pub returns-clause-value : goal.returns-clause-value
returns-clause-value c =
    let a = c.requires.access in
    subst (λ n. IfOk c.at_images.result (λ f. f ≡ form_at n c.args.access.now.forms.now c.args.row.now)) (sym (columns_known c.args.access.now.names c.args.access.now.forms.now a.sides a.some)) c.at_images.ensures

pub returns-clause-printable : goal.returns-clause-printable
returns-clause-printable c =
    let a = c.requires.access in
    IfOk-weaker c.at_images.result (λ f. f ≡ form_at c.args.access.now.names c.args.access.now.forms.now c.args.row.now) (IsPrintable c.args.access.now.names)
    (λ f e. subst (IsPrintable c.args.access.now.names) (sym e)
    (subst (λ n. IsPrintable c.args.access.now.names (form_at n c.args.access.now.forms.now c.args.row.now)) (columns_known c.args.access.now.names c.args.access.now.forms.now a.sides a.some)
    (row_printable c.args.access.now.names c.args.row.now c.args.access.now.forms.now c.requires.row a.sides a.some a.few a.short)))
    c.at_images.ensures
