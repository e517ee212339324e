use Rattle.affc_loopends.proofs.Given.{code_composable}
use Rattle.affc_loopends.proofs.system.time_system.Goals as goal

pub system_by-requires : goal.system_by-requires
system_by-requires c =
    code_composable c.args.nest.now c.args.entry.now c.args.map.now c.requires _ _ _ _ c.ranges-2.ensures.ranges c.rows-domain.ensures.rows c.as_slice.ensures c.as_slice-2.ensures
