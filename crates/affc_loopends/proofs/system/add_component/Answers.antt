use Rattle.affc_loopends.proofs.Composed.{image_wide}
use Rattle.affc_loopends.proofs.system.add_component.Goals as goal

pub add_equal_rows-requires-clause-second : goal.add_equal_rows-requires-clause-second
add_equal_rows-requires-clause-second c = image_wide c.args.columns c.args.images.now c.args.form.now _ c.requires.images c.requires.row c.in_ok-time.ensures
