use Rattle.std.proofs.Common.{◌≡◌, ℕ, ◌+◌, ◌≤◌, ◌∙◌, List, length, refl, sym, subst, arith}
use Rattle.std.specs.Prelude.{slice_get, Some}
use Rattle.std.proofs.lemmas.Option.{slice_get_read, same_Some}
use Rattle.affc_rows.specs.Forms.{Affine}
use Rattle.affc_system.specs.Systems.{IsRow}
use Rattle.affc_split.specs.declared.maximum.region.Region.{Region}
use Rattle.affc_conflicts.proofs.Decided.{all_at}
use Rattle.affc_moduli.specs.Slices.{IsNarrowed, IsNarrowedAt}
use Rattle.affc_moduli.proofs.Changed.{none_changed, changed_more, all_changed}
use Rattle.affc_moduli.proofs.slices.narrow_all.Goals as goal

pub loop-i-init : goal.loop-i-init
loop-i-init c = none_changed (IsNarrowedAt c.args.fs.now c.args.gs.now) c.args.regions.now

pub narrow-requires : goal.narrow-requires
narrow-requires c =
    let i = c.loop-i.i in
    let region = c.index-regions-i.result in
    let f = c.index-fs-i.result in
    let g = c.index-gs-i.result in
    let at : slice_get c.loop-i.regions i ≡ Some region = slice_get_read c.loop-i.regions (length c.loop-i.regions) i region refl (omega arith) c.index-regions-i.is in
    let here : slice_get c.args.regions.now i ≡ Some region = sym (c.loop-i.invariant.left i (omega arith)) ∙ at in
    let at_f : slice_get c.args.fs.now i ≡ Some f = slice_get_read c.args.fs.now (length c.args.fs.now) i f refl (omega arith) c.index-fs-i.is in
    let at_g : slice_get c.args.gs.now i ≡ Some g = slice_get_read c.args.gs.now (length c.args.gs.now) i g refl (omega arith) c.index-gs-i.is in
    record {
      f = subst (λ (r : Region). IsRow r.system.columns f) c.index-regions-i.is (c.requires.fs i region f here at_f);
      g = subst (λ (r : Region). IsRow r.system.columns g) c.index-regions-i.is (c.requires.gs i region g here at_g);
      room = subst (λ (r : Region). length r.system.rows + 2 ≤ 1024) c.index-regions-i.is (all_at (λ (r : Region). length r.system.rows + 2 ≤ 1024) c.args.regions.now c.requires.room i region here);
    }

pub loop-i-preserved : goal.loop-i-preserved
loop-i-preserved c =
    let i = c.loop-i.i in
    let fs = c.args.fs.now in
    let gs = c.args.gs.now in
    let region = c.index-regions-i.result in
    let f = c.index-fs-i.result in
    let g = c.index-gs-i.result in
    let made = c.narrow.new.region in
    let at : slice_get c.loop-i.regions i ≡ Some region = slice_get_read c.loop-i.regions (length c.loop-i.regions) i region refl (omega arith) c.index-regions-i.is in
    let at_f : slice_get fs i ≡ Some f = slice_get_read fs (length fs) i f refl (omega arith) c.index-fs-i.is in
    let at_g : slice_get gs i ≡ Some g = slice_get_read gs (length gs) i g refl (omega arith) c.index-gs-i.is in
    let narrowed : IsNarrowed region f g made = subst (λ r. IsNarrowed r f g made) (sym c.index-regions-i.is) c.in_ok-narrow.ensures in
    changed_more (IsNarrowedAt fs gs) i c.args.regions.now c.loop-i.regions region made at (at_place fs gs i region f g made at_f at_g narrowed) c.loop-i.invariant
  where
    at_place : (fs gs : List Affine) (i : ℕ) (r : Region) (f g : Affine) (n : Region) → slice_get fs i ≡ Some f → slice_get gs i ≡ Some g → IsNarrowed r f g n → IsNarrowedAt fs gs i r n
    at_place fs gs i r f g n at_f at_g this u v at_u at_v = subst (λ w. IsNarrowed r u w n) (same_Some g v (sym at_g ∙ at_v)) (subst (λ w. IsNarrowed r w g n) (same_Some f u (sym at_f ∙ at_u)) this)

pub returns : goal.returns
returns c = (
  c.loop-i.invariant.one_each,
  all_changed (IsNarrowedAt c.args.fs.now c.args.gs.now) c.loop-i.i c.args.regions.now c.loop-i.regions c.loop-i-test.false c.loop-i.invariant,
)
