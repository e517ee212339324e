use Rattle.std.proofs.Common.{◌≡◌, true, Some, codes, rules}
use Rattle.serde_json.specs.Data.{number, unsigned}
use Rattle.serde_json.specs.Find.{get}
use Rattle.serde_json.specs.View.{view}
use Rattle.affc_certvalue.specs.Keys.{has_keys}
use Rattle.affc_cert.proofs.Keyed.{names}
use Rattle.affc_cert.proofs.Found.{is_whole}
use Rattle.affc_cert.proofs.json.parts_of.Goals as goal

pub returns : goal.returns
returns c =
    let d = view c.args.value.now in
    let version = view c.in_ok-version.version.now in
    let context = view c.in_ok-context.context.now in
    let flow = view c.in_ok-flow.flow.now in
    let folds = view c.in_ok-folds.folds.now in
    let proofs = view c.in_ok-proofs.proofs.now in
    let keys : has_keys names d ≡ true = search rules in
    let first : Some version ≡ get (codes "affc") d = search rules in
    let second : Some context ≡ get (codes "context") d = search rules in
    let third : Some flow ≡ get (codes "flow") d = search rules in
    let fourth : Some folds ≡ get (codes "folds") d = search rules in
    let fifth : Some proofs ≡ get (codes "proofs") d = search rules in
    let one : number (unsigned 1) ≡ version = search rules in
    is_whole d version context flow folds proofs keys first second third fourth fifth one
