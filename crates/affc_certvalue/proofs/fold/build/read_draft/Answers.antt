use Rattle.std.proofs.Common.{◌≡◌, true, Some, codes, ap, ◌∙◌, rules}
use Rattle.serde_json.specs.Find.{get}
use Rattle.serde_json.specs.View.{view}
use Rattle.affc_certvalue.specs.fold.Entries.{FoldEntry, coefs_of}
use Rattle.affc_certvalue.specs.Keys.{has_keys}
use Rattle.affc_certvalue.specs.fold.Values.{fold_value}
use Rattle.affc_certvalue.proofs.fold.Keyed.{fold_names}
use Rattle.affc_certvalue.proofs.fold.Found.{is_fold}
use Rattle.affc_certvalue.proofs.fold.build.read_draft.Goals as goal

pub returns-in-Some-drafted : goal.returns-in-Some-drafted
returns-in-Some-drafted c =
    let d = view c.args.value.now in
    let array = view c.in-Some.number.now in
    let inverse = view c.in-Some-get.second.now in
    let moduli = view c.in-Some-get-2.third.now in
    let rows = view c.in-Some-get-3.first.now in
    let keys : has_keys fold_names d ≡ true = search rules in
    let first : Some array ≡ get (codes "array") d = search rules in
    let second : Some inverse ≡ get (codes "inverse") d = search rules in
    let third : Some moduli ≡ get (codes "moduli") d = search rules in
    let fourth : Some rows ≡ get (codes "rows") d = search rules in
    let entry : FoldEntry = record { array = c.in-Some-array_id.array.0; rows = coefs_of c.in_ok-rows.rows; inverse = coefs_of c.in_ok-inverse.inverse; moduli = c.in_ok-moduli.moduli } in
    ap fold_value c.in-Some-drafted.ensures
    ∙ is_fold entry d array inverse moduli rows keys first second third fourth c.in-Some-array_id.ensures c.in_ok-inverse.ensures.values c.in_ok-moduli.ensures c.in_ok-rows.ensures.values
