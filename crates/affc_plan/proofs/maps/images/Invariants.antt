use Rattle.std.proofs.Common.{◌≡◌, ◌++◌, drop}
use Rattle.affc_trace.specs.Inverses.{columns_from}
use Rattle.affc_plan.proofs.maps.images.Given as goal

abbrev pub invariant-loop-form : goal.invariant-loop-form
invariant-loop-form l = l.images ++ drop l.form-index l.forms ≡ columns_from l.columns 0 l.first ++ l.forms
