use Rattle.std.proofs.Common.{◌≡◌, map, take}
use Rattle.serde_json.specs.View.{view}
use Rattle.affc_certvalue.specs.Values.{form_value}
use Rattle.affc_cert.proofs.tree.write.forms.Given as goal

abbrev pub invariant-loop-row : goal.invariant-loop-row
invariant-loop-row l = map view l.values.items ≡ map form_value (take l.row-index l.rows)
