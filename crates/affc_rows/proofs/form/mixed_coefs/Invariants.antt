use Rattle.std.proofs.Common.{◌≡◌, ◌++◌, drop}
use Rattle.affc_rows.specs.Forms.{mixed, mixed_magnitudes, AllFit, TooWide}
use Rattle.affc_rows.proofs.form.mixed_coefs.Given as goal

abbrev pub invariant-loop-i : goal.invariant-loop-i
invariant-loop-i l = record {
  made : l.coefs.items ++ mixed l.s (drop l.i l.first) l.t (drop l.i l.second) ≡ mixed l.s l.first l.t l.second;
  fits : AllFit (mixed_magnitudes l.s (drop l.i l.first) l.t (drop l.i l.second)) → AllFit (mixed_magnitudes l.s l.first l.t l.second);
  wide : TooWide (mixed_magnitudes l.s (drop l.i l.first) l.t (drop l.i l.second)) → TooWide (mixed_magnitudes l.s l.first l.t l.second);
}
