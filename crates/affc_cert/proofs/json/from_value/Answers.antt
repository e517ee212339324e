use Rattle.std.proofs.Common.{◌≡◌, Some, rules}
use Rattle.serde_json.specs.View.{view}
use Rattle.affc_cert.specs.Refusals.{refusal}
use Rattle.affc_cert.proofs.Broken.{never_json}
use Rattle.affc_cert.proofs.json.from_value.Goals as goal

pub returns-in-Some-clause-not_json : goal.returns-in-Some-clause-not_json
returns-in-Some-clause-not_json c =
    let d = view c.args.value.now in
    let found : Some c.in-Some.fault ≡ refusal c.args.layout.now d = search rules in
    never_json c.args.layout.now d c.in-Some.fault found
