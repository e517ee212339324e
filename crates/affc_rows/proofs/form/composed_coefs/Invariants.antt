use Rattle.std.proofs.Common.{◌≡◌, ◌++◌, ◌-◌}
use Rattle.affc_rows.specs.Forms.{composed, composed_magnitudes, AllFit, TooWide}
use Rattle.affc_rows.proofs.form.composed_coefs.Given as goal

abbrev pub invariant-loop-column : goal.invariant-loop-column
invariant-loop-column l = record {
  made : l.made.items ++ composed l.coefs l.images l.column (l.columns - l.column) ≡ composed l.coefs l.images 0 l.columns;
  fits : AllFit (composed_magnitudes l.coefs l.images l.column (l.columns - l.column)) → AllFit (composed_magnitudes l.coefs l.images 0 l.columns);
  wide : TooWide (composed_magnitudes l.coefs l.images l.column (l.columns - l.column)) → TooWide (composed_magnitudes l.coefs l.images 0 l.columns);
}
