use Rattle.std.proofs.Common.{◌-ℤ◌, arith, sym, subst}
use Rattle.std.specs.Prelude.{FitsSigned}
use Rattle.std.specs.Int.{w64}
use Rattle.std.proofs.lemmas.Int.{to_z-of_z, fits_signed_from_abs}
use Rattle.affc_split.specs.maximum.Regions.{IsMost}
use Rattle.affc_split.proofs.maximum.Gaps.{front, front_in, front_most, near_gap, near_most}
use Rattle.affc_split.proofs.maximum.gap.best_at.Goals as goal

pub overflow_sub-result : goal.overflow_sub-result
overflow_sub-result c =
    let a = c.args.objective.now in
    let q = c.requires.objective in
    let t = front c.args.point.now in
    let h = front_in a.region.now a.form.now a.floor a.ceiling c.args.point.now c.requires.least in
    let fc : FitsSigned w64 a.ceiling = fits_signed_from_abs w64 a.ceiling (let b = q.ceiling_near in omega arith) in
    let ft : FitsSigned w64 t = fits_signed_from_abs w64 t (let b = near_gap a.floor a.ceiling t q.floor_near q.ceiling_near h.0 h.1 in omega arith) in
    simp to_z-of_z (fits_signed_from_abs w64 (a.ceiling -ℤ t) (let b = near_most a.floor a.ceiling t q.floor_near q.ceiling_near h.0 h.1 in omega arith))

pub returns-clause-answer : goal.returns-clause-answer
returns-clause-answer c =
    let a = c.args.objective.now in
    let q = c.requires.objective in
    let t = front c.args.point.now in
    let h = front_in a.region.now a.form.now a.floor a.ceiling c.args.point.now c.requires.least in
    let fc : FitsSigned w64 a.ceiling = fits_signed_from_abs w64 a.ceiling (let b = q.ceiling_near in omega arith) in
    let ft : FitsSigned w64 t = fits_signed_from_abs w64 t (let b = near_gap a.floor a.ceiling t q.floor_near q.ceiling_near h.0 h.1 in omega arith) in
    let fd : FitsSigned w64 (a.ceiling -ℤ t) = fits_signed_from_abs w64 (a.ceiling -ℤ t) (let b = near_most a.floor a.ceiling t q.floor_near q.ceiling_near h.0 h.1 in omega arith) in
    let m = front_most a.region.now a.form.now a.floor a.ceiling c.args.point.now q.bounded c.requires.least in
    simp to_z-of_z (m.0, subst (λ z. IsMost a.region.now a.form.now (a.ceiling -ℤ t) z) (sym c.in_ok-from_slice.ensures.items) m.1)

pub returns-clause-near : goal.returns-clause-near
returns-clause-near c =
    let a = c.args.objective.now in
    let q = c.requires.objective in
    let t = front c.args.point.now in
    let h = front_in a.region.now a.form.now a.floor a.ceiling c.args.point.now c.requires.least in
    let fc : FitsSigned w64 a.ceiling = fits_signed_from_abs w64 a.ceiling (let b = q.ceiling_near in omega arith) in
    let ft : FitsSigned w64 t = fits_signed_from_abs w64 t (let b = near_gap a.floor a.ceiling t q.floor_near q.ceiling_near h.0 h.1 in omega arith) in
    let b = near_most a.floor a.ceiling t q.floor_near q.ceiling_near h.0 h.1 in
    let fd : FitsSigned w64 (a.ceiling -ℤ t) = fits_signed_from_abs w64 (a.ceiling -ℤ t) (omega arith) in
    simp to_z-of_z b
