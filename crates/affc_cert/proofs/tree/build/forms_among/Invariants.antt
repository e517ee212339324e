use Rattle.std.proofs.Common.{◌≡◌, map, take}
use Rattle.serde_json.specs.View.{view}
use Rattle.affc_certvalue.specs.Values.{form_value}
use Rattle.affc_cert.proofs.tree.build.forms_among.Given as goal

abbrev pub invariant-loop-value : goal.invariant-loop-value
invariant-loop-value l = map form_value l.forms ≡ map view (take l.value-index l.items)
