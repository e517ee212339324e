use Rattle.affc_driver.proofs.Refused.{named_nest}
use Rattle.affc_driver.proofs.Told.{all_short, all_few, entries_few}
use Rattle.affc_driver.proofs.flowing.trees_text.Goals as goal

pub flow_text-requires-clause-short : goal.flow_text-requires-clause-short
flow_text-requires-clause-short c = all_short c.args.nest.now c.args.flow.now c.requires.limits

pub flow_text-requires-clause-few : goal.flow_text-requires-clause-few
flow_text-requires-clause-few c = all_few c.args.nest.now (named_nest c.args.program.now c.args.nest.now c.requires.plain c.requires.arrays c.requires.nest c.requires.within)

pub flow_text-requires-clause-count : goal.flow_text-requires-clause-count
flow_text-requires-clause-count c = entries_few c.args.program.now c.args.nest.now (record { plain = c.requires.plain; near = c.requires.within.near }) c.requires.nest
