use Rattle.std.proofs.Common.{◌≡◌, map, take}
use Rattle.serde_json.specs.View.{view}
use Rattle.affc_certvalue.specs.Values.{numbers_value}
use Rattle.affc_certvalue.specs.fold.Entries.{coefs_of}
use Rattle.affc_certvalue.proofs.fold.write.matrix.Given as goal

abbrev pub invariant-loop-form : goal.invariant-loop-form
invariant-loop-form l = map view l.values.items ≡ map numbers_value (coefs_of (take l.form-index l.forms))
