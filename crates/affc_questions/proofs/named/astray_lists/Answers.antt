use Rattle.std.proofs.Common.{◌≡◌, ℕ, ◌≤◌, List, length, map, sym, ap, subst, ◌∙◌}
use Rattle.std.specs.List.{All}
use Rattle.affc_rows.specs.Forms.{Affine}
use Rattle.affc_system.specs.Systems.{IsRow}
use Rattle.affc_nest.specs.declared.nest.Nest.{Nest}
use Rattle.affc_quast.specs.Leaves.{padded}
use Rattle.affc_quast.specs.SeenLeaves.{leaf_seen}
use Rattle.affc_nest.specs.Wide.{IsWide}
use Rattle.affc_order.specs.Placed.{AreImages}
use Rattle.affc_questions.specs.Listed.{images}
use Rattle.affc_questions.proofs.LeafLemmas.{load_wide, load_narrow, images_are, rows_at_images, subs_at_images}
use Rattle.affc_questions.proofs.named.astray_lists.Goals as goal

images_is : (nest : Nest) (columns : ℕ) (forms own made now : List Affine) → now ≡ made → made ≡ images nest columns own → own ≡ forms → now ≡ images nest columns forms
images_is nest columns forms own made now e f g = e ∙ (f ∙ ap (images nest columns) g)

pub add_outside-requires-clause-images : goal.add_outside-requires-clause-images
add_outside-requires-clause-images c =
    subst (AreImages c.args.reading.now.leaf.now.columns) (sym (images_is c.args.reading.now.nest.now c.args.reading.now.leaf.now.columns c.args.named.now.forms c.as_slice.result.now c.in_ok-images.images.items c.as_slice-images.result.now c.as_slice-images.ensures.value c.in_ok-images.ensures c.as_slice.ensures))
    (images_are c.args.reading.now.nest.now c.requires.reading.nested c.args.reading.now.leaf.now.columns c.args.named.now.part c.args.named.now.forms c.args.writer.now.entry.now c.args.writer.now.store.now c.requires.writer c.requires.named)

pub add_outside-requires-clause-rows : goal.add_outside-requires-clause-rows
add_outside-requires-clause-rows c =
    subst (λ (fs : List Affine). All (IsRow (length fs)) c.rows.result.now) (sym (images_is c.args.reading.now.nest.now c.args.reading.now.leaf.now.columns c.args.named.now.forms c.as_slice.result.now c.in_ok-images.images.items c.as_slice-images.result.now c.as_slice-images.ensures.value c.in_ok-images.ensures c.as_slice.ensures))
    (rows_at_images c.args.reading.now.nest.now c.requires.reading.nested c.args.reading.now.leaf.now.columns c.args.named.now.part c.args.named.now.forms c.args.writer.now.entry.now c.args.writer.now.store.now c.requires.writer c.requires.named c.rows.result.now c.rows.ensures.fit)

pub add_apart-requires-clause-images : goal.add_apart-requires-clause-images
add_apart-requires-clause-images c =
    subst (AreImages c.args.reading.now.leaf.now.columns) (sym (images_is c.args.reading.now.nest.now c.args.reading.now.leaf.now.columns c.args.named.now.forms c.as_slice.result.now c.in_ok-images.images.items c.as_slice-images.result.now c.as_slice-images.ensures.value c.in_ok-images.ensures c.as_slice.ensures))
    (images_are c.args.reading.now.nest.now c.requires.reading.nested c.args.reading.now.leaf.now.columns c.args.named.now.part c.args.named.now.forms c.args.writer.now.entry.now c.args.writer.now.store.now c.requires.writer c.requires.named)

pub add_apart-requires-clause-written : goal.add_apart-requires-clause-written
add_apart-requires-clause-written c =
    subst (λ (fs : List Affine). All (IsRow (length fs)) c.as_slice-written.result.now) (sym (images_is c.args.reading.now.nest.now c.args.reading.now.leaf.now.columns c.args.named.now.forms c.as_slice.result.now c.in_ok-images.images.items c.as_slice-images.result.now c.as_slice-images.ensures.value c.in_ok-images.ensures c.as_slice.ensures))
    (subst (All (IsRow (length (images c.args.reading.now.nest.now c.args.reading.now.leaf.now.columns c.args.named.now.forms)))) (sym c.as_slice-written.ensures)
    (subs_at_images c.args.reading.now.nest.now c.requires.reading.nested c.args.reading.now.leaf.now.columns c.args.named.now.part c.args.named.now.forms c.args.writer.now.entry.now c.args.writer.now.store.now c.requires.writer c.requires.named))

pub add_apart-requires-clause-narrow : goal.add_apart-requires-clause-narrow
add_apart-requires-clause-narrow c =
    subst (All (λ f. length f.coefs ≤ c.args.reading.now.leaf.now.columns)) (sym c.as_slice-read.ensures) (load_narrow c.args.reading.now.nest.now c.args.reading.now.reader.now c.args.reading.now.load.now (leaf_seen c.args.reading.now.leaf.now) c.requires.reading)

pub add_apart-requires-clause-wide : goal.add_apart-requires-clause-wide
add_apart-requires-clause-wide c =
    subst (λ (fs : List Affine). All (IsWide c.args.reading.now.leaf.now.columns) (map (padded c.args.reading.now.leaf.now.columns) fs)) (sym c.as_slice-read.ensures) (load_wide c.args.reading.now.nest.now c.args.reading.now.reader.now c.args.reading.now.load.now (leaf_seen c.args.reading.now.leaf.now) c.requires.reading)
