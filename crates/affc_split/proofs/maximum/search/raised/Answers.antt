use Rattle.std.proofs.Common.{◌≡◌, ◌∙◌, ap, arith}
use Rattle.std.specs.Prelude.{FitsSigned}
use Rattle.std.specs.Int.{w64}
use Rattle.std.proofs.lemmas.Int.{to_z-of_z, fits_signed_from_abs}
use Rattle.affc_rows.specs.Forms.{value}
use Rattle.affc_split.proofs.maximum.Bounds.{raised_search}
use Rattle.affc_split.proofs.maximum.search.raised.Goals as goal

pub returns-clause-search : goal.returns-clause-search
returns-clause-search c =
    let s = c.args.search in
    let f = s.objective.form.now in
    let h = c.requires.search in
    let e : c.reached-value.result ≡ value f c.args.point.items = c.reached-value.ensures ∙ ap (value f) c.as_slice.ensures.value in
    let made = raised_search s c.args.at c.reached-value.result c.args.point h c.requires.above c.requires.inside c.requires.reaches e in
    let hi : FitsSigned w64 s.high = fits_signed_from_abs w64 s.high (let b = h.high_near in omega arith) in
    let lo : FitsSigned w64 c.reached-value.result = fits_signed_from_abs w64 c.reached-value.result (let b = made.low_near in omega arith) in
    simp to_z-of_z made
