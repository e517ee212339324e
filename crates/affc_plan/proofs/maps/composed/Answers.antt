use Rattle.affc_plan.proofs.maps.composed.Goals as goal

pub unreachable-requires : goal.unreachable-requires
unreachable-requires c = c.requires.fits (c.in-Err-Range.ensures.range c.in-Err-Range.field-0-is)
