use Rattle.std.proofs.Common.{◌≡◌, Some, rules}
use Rattle.serde_json.specs.Read.{read}
use Rattle.serde_json.specs.View.{view}
use Rattle.affc_cert.proofs.Within.{back_well}
use Rattle.affc_cert.proofs.json.from_json.Goals as goal

pub returns-in-Ok-clause-back : goal.returns-in-Ok-clause-back
returns-in-Ok-clause-back c =
    λ cert reads within.
    let found : read c.args.text.now ≡ Some (view c.in-Ok.value) = search rules in
    back_well c.args.text.now c.args.layout.now cert (view c.in-Ok.value) c.from_value.result found c.from_value.ensures.ok c.from_value.ensures.err reads within
