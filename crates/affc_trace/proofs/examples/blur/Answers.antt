use Rattle.affc_trace.proofs.ExampleProofs as x
use Rattle.affc_trace.proofs.examples.blur.Goals as goal

pub returns : goal.returns
returns c = record { takes_turns = x.blur_takes_turns; sources = x.blur_sources; live_pairs = x.blur_live_pairs; is_legal = x.blur_is_legal; has_its_maps = x.blur_has_its_maps; loads_depend_on_nothing = x.loads_depend_on_nothing; folded_follows = x.folded_blur_follows; folded_does = x.folded_blur_does; input_alone = x.input_is_not_shared }
