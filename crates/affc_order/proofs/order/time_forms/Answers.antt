use Rattle.std.proofs.Common.{◌≡◌, subst}
use Rattle.std.specs.Prelude.{get_or}
use Rattle.affc_order.specs.Placed.{posed}
use Rattle.affc_order.proofs.PlacedLemmas.{its_images, its_rows, times_made}
use Rattle.affc_order.proofs.order.time_forms.Goals as goal

pub add_images-requires-clause-images : goal.add_images-requires-clause-images
add_images-requires-clause-images c =
    its_images c.args.nest.now c.requires.nest c.args.maps.now c.args.columns (posed c.args.a.now) c.requires.placed c.requires.timed c.index-maps-statement.result (subst (λ k. c.index-maps-statement.result ≡ get_or c.args.maps.now k c.index-maps-statement.result) c.statement.ensures c.index-maps-statement.is)
    c.ranges-2.result.now c.ranges-2.ensures.ranges c.add_copies.new.out.items c.in_ok-images.images.items c.in_ok-images.ensures.value c.in_ok-add_copies.ensures c.as_slice.result.now c.as_slice.ensures.value

pub add_images-requires-clause-rows : goal.add_images-requires-clause-rows
add_images-requires-clause-rows c =
    its_rows c.args.nest.now c.requires.nest c.args.maps.now c.args.columns (posed c.args.a.now) c.requires.placed c.requires.timed c.index-maps-statement.result (subst (λ k. c.index-maps-statement.result ≡ get_or c.args.maps.now k c.index-maps-statement.result) c.statement.ensures c.index-maps-statement.is)
    c.ranges-2.result.now c.ranges-2.ensures.ranges c.add_copies.new.out.items c.in_ok-images.images.items c.in_ok-images.ensures.value c.in_ok-add_copies.ensures c.as_slice.result.now c.as_slice-2.result.now c.as_slice.ensures.value
    c.as_slice-2.ensures

pub returns : goal.returns
returns c =
    times_made c.args.nest.now c.requires.nest c.args.maps.now c.args.columns (posed c.args.a.now) c.requires.placed c.requires.timed c.index-maps-statement.result (subst (λ k. c.index-maps-statement.result ≡ get_or c.args.maps.now k c.index-maps-statement.result) c.statement.ensures c.index-maps-statement.is)
    c.ranges-2.result.now c.ranges-2.ensures.ranges c.add_copies.new.out.items c.in_ok-images.images.items c.in_ok-images.ensures.value c.in_ok-add_copies.ensures c.as_slice.result.now c.as_slice-2.result.now c.add_images.new.out.items
    c.new-times.result.items c.as_slice.ensures.value c.as_slice-2.ensures c.new-times.ensures.items c.in_ok-add_images.ensures
