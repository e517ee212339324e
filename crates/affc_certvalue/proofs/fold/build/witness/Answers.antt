use Rattle.std.proofs.Common.{◌≡◌, true, Some, codes, rules}
use Rattle.serde_json.specs.Find.{get}
use Rattle.serde_json.specs.View.{view}
use Rattle.affc_certvalue.specs.Keys.{has_keys}
use Rattle.affc_certvalue.proofs.fold.Keyed.{witness_names}
use Rattle.affc_certvalue.proofs.fold.Found.{is_witness}
use Rattle.affc_certvalue.proofs.fold.build.witness.Goals as goal

pub returns : goal.returns
returns c =
    let d = view c.args.value.now in
    let clash = view c.in-Some.clash.now in
    let p = view c.in-Some-get.p.now in
    let point = view c.in-Some-get-2.point.now in
    let keys : has_keys witness_names d ≡ true = search rules in
    let first : Some clash ≡ get (codes "clash") d = search rules in
    let second : Some p ≡ get (codes "p") d = search rules in
    let third : Some point ≡ get (codes "point") d = search rules in
    is_witness (record { p = c.in_ok-p.p; pair = c.in_ok-pair.pair }) d clash p point keys first second third c.in_ok-pair.ensures.clash c.in_ok-p.ensures c.in_ok-pair.ensures.point
