use Rattle.std.proofs.Common.{sym}
use Rattle.affc_order.proofs.ImageLemmas.{image_fits, have_columns}
use Rattle.affc_order.proofs.images.image_of.Goals as goal

pub at_images-requires-clause-one_each : goal.at_images-requires-clause-one_each
at_images-requires-clause-one_each c = sym c.requires.row.width

pub at_images-requires-clause-equal_columns : goal.at_images-requires-clause-equal_columns
at_images-requires-clause-equal_columns c = have_columns c.args.columns c.args.images.now c.requires.images

pub at_images-requires-clause-fits : goal.at_images-requires-clause-fits
at_images-requires-clause-fits c = image_fits c.args.columns c.args.images.now c.requires.images c.args.form.now c.requires.row
