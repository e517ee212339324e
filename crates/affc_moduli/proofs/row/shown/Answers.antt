use Rattle.std.proofs.Common.{◌≡◌, ◌∙◌, ◌+◌, ◌≤◌, ◌^◌, ℕ, ℤ, List, pos, ◌+ℤ◌, replicate, take, length, sym, ap, subst, arith}
use Rattle.std.specs.Prelude.{FitsSigned, unsigned_abs, slice_get, get_or, Some}
use Rattle.std.specs.Int.{w64}
use Rattle.std.specs.List.{All}
use Rattle.std.proofs.lemmas.Int.{ints, to_z-of_z, fits_signed_from_abs}
use Rattle.std.proofs.lemmas.Option.{same_Some, slice_get-get_or, slice_get_within}
use Rattle.affc_rows.specs.Forms.{Affine, value, values_of}
use Rattle.affc_system.specs.declared.pairs.PairSystem.{PairSystem}
use Rattle.affc_conflicts.specs.differences.Differences.{apart}
use Rattle.affc_basis.specs.declared.fold.Mark.{Mark}
use Rattle.affc_basis.specs.declared.fold.Mark.TheVariants.{Least}
use Rattle.affc_moduli.proofs.Rows.{number}
use Rattle.affc_moduli.proofs.Step.{wide, x_near, y_near, distance_near}
use Rattle.affc_moduli.proofs.Done.{done_some, sum_of}
use Rattle.affc_moduli.proofs.Results.{both}
use Rattle.affc_moduli.proofs.row.shown.Goals as goal

size_of : (v : ℤ) (n : ℕ) → v ≡ pos n → n ≤ 2 ^ 53 → unsigned_abs v ≤ 2 ^ 53
size_of v n e h = omega (arith, ints)

pub with_pair-requires-clause-x : goal.with_pair-requires-clause-x
with_pair-requires-clause-x c =
    let h = c.requires.farthest in
    let a = h.4 in
    let s : PairSystem = get_or c.args.asked.now.given.pairs.now c.args.found.now.number c.index-asked-found.result in
    let i = c.args.found.now.number in
    let z = c.args.found.now.point.items in
    let here : slice_get c.args.asked.now.given.pairs.now i ≡ Some s = slice_get-get_or c.args.asked.now.given.pairs.now i c.index-asked-found.result (slice_get_within c.args.asked.now.given.pairs.now i a.system a.system_there) in
    subst (λ w. All (λ f. unsigned_abs (value f w) ≤ 2 ^ 43) s.x.items) (sym c.as_slice-point.ensures.value) (x_near c.args.asked.now.given.context.now c.args.asked.now.given.ranges.now c.args.asked.now.given.extents.now c.args.asked.now.given.rows.now c.args.asked.now.given.pairs.now c.requires.asked.given.ready c.args.asked.now.line.k c.args.asked.now.line.row.now c.requires.asked.line.there c.args.asked.now.regions.now c.requires.asked.slices i s a.region z here a.region_there a.inside)

pub with_pair-requires-clause-y : goal.with_pair-requires-clause-y
with_pair-requires-clause-y c =
    let h = c.requires.farthest in
    let a = h.4 in
    let s : PairSystem = get_or c.args.asked.now.given.pairs.now c.args.found.now.number c.index-asked-found.result in
    let i = c.args.found.now.number in
    let z = c.args.found.now.point.items in
    let here : slice_get c.args.asked.now.given.pairs.now i ≡ Some s = slice_get-get_or c.args.asked.now.given.pairs.now i c.index-asked-found.result (slice_get_within c.args.asked.now.given.pairs.now i a.system a.system_there) in
    subst (λ w. All (λ f. unsigned_abs (value f w) ≤ 2 ^ 43) s.y.items) (sym c.as_slice-point.ensures.value) (y_near c.args.asked.now.given.context.now c.args.asked.now.given.ranges.now c.args.asked.now.given.extents.now c.args.asked.now.given.rows.now c.args.asked.now.given.pairs.now c.requires.asked.given.ready c.args.asked.now.line.k c.args.asked.now.line.row.now c.requires.asked.line.there c.args.asked.now.regions.now c.requires.asked.slices i s a.region z here a.region_there a.inside)

pub with_pair-requires-clause-distance : goal.with_pair-requires-clause-distance
with_pair-requires-clause-distance c =
    let h = c.requires.farthest in
    let a = h.4 in
    let s : PairSystem = get_or c.args.asked.now.given.pairs.now c.args.found.now.number c.index-asked-found.result in
    let i = c.args.found.now.number in
    let z = c.args.found.now.point.items in
    let here : slice_get c.args.asked.now.given.pairs.now i ≡ Some s = slice_get-get_or c.args.asked.now.given.pairs.now i c.index-asked-found.result (slice_get_within c.args.asked.now.given.pairs.now i a.system a.system_there) in
    let same : a.system ≡ s = same_Some a.system s (sym a.system_there ∙ here) in
    let by : unsigned_abs (apart c.args.asked.now.line.row.now.coefs s.x.items s.y.items z) ≡ h.0 = subst (λ (q : PairSystem). unsigned_abs (apart c.args.asked.now.line.row.now.coefs q.x.items q.y.items z) ≡ h.0) same a.apart_by in
    let small : h.0 ≤ 2 ^ 53 = distance_near c.args.asked.now.given.context.now c.args.asked.now.given.ranges.now c.args.asked.now.given.extents.now c.args.asked.now.given.rows.now c.args.asked.now.given.pairs.now c.requires.asked.given.ready c.args.asked.now.line.k c.args.asked.now.line.row.now c.requires.asked.line.there c.args.asked.now.regions.now c.requires.asked.slices h.0 i s a.region z here a.region_there a.inside by in
    let near : unsigned_abs c.args.found.now.value ≤ 2 ^ 53 = size_of c.args.found.now.value h.0 h.1 small in
    let fits : FitsSigned w64 c.args.found.now.value = fits_signed_from_abs w64 c.args.found.now.value (omega (arith, near)) in
    simp to_z-of_z near

pub returns-clause-done : goal.returns-clause-done
returns-clause-done c =
    let h = c.requires.farthest in
    let a = h.4 in
    let s : PairSystem = get_or c.args.asked.now.given.pairs.now c.args.found.now.number c.index-asked-found.result in
    let i = c.args.found.now.number in
    let z = c.args.found.now.point.items in
    let here : slice_get c.args.asked.now.given.pairs.now i ≡ Some s = slice_get-get_or c.args.asked.now.given.pairs.now i c.index-asked-found.result (slice_get_within c.args.asked.now.given.pairs.now i a.system a.system_there) in
    let same : a.system ≡ s = same_Some a.system s (sym a.system_there ∙ here) in
    let by : unsigned_abs (apart c.args.asked.now.line.row.now.coefs s.x.items s.y.items z) ≡ h.0 = subst (λ (q : PairSystem). unsigned_abs (apart c.args.asked.now.line.row.now.coefs q.x.items q.y.items z) ≡ h.0) same a.apart_by in
    let small : h.0 ≤ 2 ^ 53 = distance_near c.args.asked.now.given.context.now c.args.asked.now.given.ranges.now c.args.asked.now.given.extents.now c.args.asked.now.given.rows.now c.args.asked.now.given.pairs.now c.requires.asked.given.ready c.args.asked.now.line.k c.args.asked.now.line.row.now c.requires.asked.line.there c.args.asked.now.regions.now c.requires.asked.slices h.0 i s a.region z here a.region_there a.inside by in
    let near : unsigned_abs c.args.found.now.value ≤ 2 ^ 53 = size_of c.args.found.now.value h.0 h.1 small in
    let fits : FitsSigned w64 c.args.found.now.value = fits_signed_from_abs w64 c.args.found.now.value (omega (arith, near)) in
    let form = simp to_z-of_z at c.with_pair.ensures.form in
    let n : ℕ = h.0 in
    let columns : ℕ = c.args.asked.now.given.context.now.columns in
    let at_columns : c.columns-parameters.result ≡ columns = c.columns-parameters.ensures.value in
    let made : record { coefs = replicate c.columns-parameters.result (pos 0); constant = c.args.found.now.value +ℤ pos 1 } ≡ number columns (n + 1) =
    ap (λ (q : ℕ). let f : Affine = record { coefs = replicate q (pos 0); constant = c.args.found.now.value +ℤ pos 1 } in f) at_columns
    ∙ ap (λ (w : ℤ). let f : Affine = record { coefs = replicate columns (pos 0); constant = w } in f) (sum_of c.args.found.now.value n h.1) in
    let marked : Least (take c.columns-parameters.result c.as_slice-point.result.now) (Some (values_of s.x.items c.as_slice-point.result.now, values_of s.y.items c.as_slice-point.result.now)) ≡ Least (take columns z) (Some (values_of s.x.items z, values_of s.y.items z)) =
    ap (λ (q : ℕ). let m : Mark = Least (take q c.as_slice-point.result.now) (Some (values_of s.x.items c.as_slice-point.result.now, values_of s.y.items c.as_slice-point.result.now)) in m) at_columns
    ∙ ap (λ (w : List ℤ). let m : Mark = Least (take columns w) (Some (values_of s.x.items w, values_of s.y.items w)) in m) c.as_slice-point.ensures.value in
    both _ _ _ c.with_pair.result
    (λ m e f. done_some c.args.asked.now.given.context.now c.args.asked.now.given.ranges.now c.args.asked.now.given.rows.now c.args.asked.now.line.k c.args.asked.now.line.row.now c.args.asked.now.given.pairs.now c.args.asked.now.regions.now c.requires.asked.slices (wide c.args.asked.now.given.context.now c.args.asked.now.given.ranges.now c.args.asked.now.given.extents.now c.args.asked.now.given.rows.now c.args.asked.now.given.pairs.now c.requires.asked.given.ready c.args.asked.now.line.k c.args.asked.now.line.row.now c.requires.asked.line.there c.args.asked.now.regions.now c.requires.asked.slices) n i z s a.region h.3 h.2 small here a.region_there a.inside by m (e ∙ made) (f ∙ marked))
    form c.with_pair.ensures.mark

pub returns-clause-flat : goal.returns-clause-flat
returns-clause-flat c =
    both _ _ _ c.with_pair.result (λ m e f. ap (λ (g : Affine). g.coefs) e ∙ ap (λ (q : ℕ). replicate q (pos 0)) c.columns-parameters.ensures.value) c.with_pair.ensures.form c.with_pair.ensures.form
