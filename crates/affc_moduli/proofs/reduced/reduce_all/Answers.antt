use Rattle.std.proofs.Common.{◌≡◌, length, refl, sym, subst, arith}
use Rattle.std.specs.Prelude.{slice_get, Some}
use Rattle.std.proofs.lemmas.Option.{slice_get_read}
use Rattle.affc_moduli.specs.Reduced.{IsReduced}
use Rattle.affc_moduli.proofs.Changed.{none_changed, changed_more, all_changed}
use Rattle.affc_moduli.proofs.reduced.reduce_all.Goals as goal

pub loop-i-init : goal.loop-i-init
loop-i-init c = none_changed (λ k. IsReduced) c.args.regions.now

pub loop-i-preserved : goal.loop-i-preserved
loop-i-preserved c =
    let regions = c.loop-i.regions in
    let region = c.index-regions-i.result in
    let made = c.reduce.new.region in
    let at : slice_get regions c.loop-i.i ≡ Some region = slice_get_read regions (length regions) c.loop-i.i region refl (omega arith) c.index-regions-i.is in
    let reduced : IsReduced region made = subst (λ r. IsReduced r made) (sym c.index-regions-i.is) c.in_ok-reduce.ensures in
    changed_more (λ k. IsReduced) c.loop-i.i c.args.regions.now regions region made at reduced c.loop-i.invariant

pub returns : goal.returns
returns c = (c.loop-i.invariant.one_each, all_changed (λ k. IsReduced) c.loop-i.i c.args.regions.now c.loop-i.regions c.loop-i-test.false c.loop-i.invariant)
