use Rattle.std.proofs.Common.{length, arith, true≢false, refl, sym, ap, ◌∙◌, Some, None}
use Rattle.affc_rows.specs.Forms.{dot}
use Rattle.affc_basis.specs.Bases.{entries_of}
use Rattle.affc_basis.proofs.Separation.{square_columns}
use Rattle.affc_basis.proofs.Products.{entry_of_column, column_of_entries}
use Rattle.affc_basis.proofs.basis.gives_column.Goals as goal

pub returns-then-not-sums_to-2 : goal.returns-then-not-sums_to-2
returns-then-not-sums_to-2 c =
    let coefs = c.as_slice-coefs.ensures ∙ ap (λ v. v.coefs) c.form.view_is in
    let whole = square_columns (length c.args.rows.now) c.args.rows.now c.requires.square refl in (
      λ e. absurd (true≢false (sym e)),
      λ e. sym c.if-not-sums_to-2.true ∙ c.sums_to-in-loop-j.ensures.1
          (ap (λ l. dot l (entries_of (Some c.loop-j.j) c.args.rows.now)) coefs ∙ entry_of_column c.args.form.now c.args.rows.now c.args.k whole c.requires.no_constant e c.loop-j.j c.loop-j-test.true),
    )

pub returns : goal.returns
returns c =
    let coefs = c.as_slice-coefs.ensures ∙ ap (λ v. v.coefs) c.form.view_is in
    let whole = square_columns (length c.args.rows.now) c.args.rows.now c.requires.square refl in (
      λ e. column_of_entries c.args.form.now c.args.rows.now c.args.k whole c.requires.no_constant
          (ap (λ l. dot l (entries_of None c.args.rows.now)) (sym coefs) ∙ c.sums_to.ensures.0 c.if-not-sums_to.false)
          (λ j h. c.loop-j.invariant j (omega arith)),
      λ e. refl,
    )
