use Rattle.std.proofs.Common.{◌++◌, map, sym, ap, subst, ◌∙◌}
use Rattle.std.specs.List.{All}
use Rattle.affc_order.specs.Posed.{form_at}
use Rattle.affc_nest.specs.Wide.{IsWide}
use Rattle.affc_order.proofs.ImageLemmas.{images_wide}
use Rattle.affc_questions.proofs.named.add_outside.Goals as goal

pub add_below_zero-requires : goal.add_below_zero-requires
add_below_zero-requires c =
    subst (All (IsWide c.args.columns))
    (sym (c.as_slice.ensures.value ∙ (c.in_ok-add_images.ensures ∙ ap (λ zs. zs ++ map (form_at c.args.columns c.args.images.now) c.args.rows.now) c.new-made.ensures.items)))
    (images_wide c.args.columns c.args.images.now c.requires.images c.args.rows.now c.requires.rows)
