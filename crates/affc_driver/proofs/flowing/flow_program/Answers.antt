use Rattle.affc_quast.specs.Seen.{trees_of}
use Rattle.affc_plain.proofs.Programs.{reads_plain}
use Rattle.affc_driver.proofs.Ranked.{reads_naming_arrays}
use Rattle.affc_driver.proofs.Refused.{refuses_each_tree, told_trees}
use Rattle.affc_driver.proofs.flowing.flow_program.Goals as goal

pub nest_within-requires-clause-plain : goal.nest_within-requires-clause-plain
nest_within-requires-clause-plain c = reads_plain c.requires.0 c.args.program.now c.requires.1.reads c.requires.1.bare

pub trees_within-requires-clause-arrays : goal.trees_within-requires-clause-arrays
trees_within-requires-clause-arrays c = reads_naming_arrays c.requires.0 c.args.program.now c.requires.1.reads

pub nest_within-requires-clause-arrays : goal.nest_within-requires-clause-arrays
nest_within-requires-clause-arrays c = reads_naming_arrays c.requires.0 c.args.program.now c.requires.1.reads

pub trees_within-requires-clause-plain : goal.trees_within-requires-clause-plain
trees_within-requires-clause-plain c = reads_plain c.requires.0 c.args.program.now c.requires.1.reads c.requires.1.bare

pub trees_text-requires-clause-plain : goal.trees_text-requires-clause-plain
trees_text-requires-clause-plain c = reads_plain c.requires.0 c.args.program.now c.requires.1.reads c.requires.1.bare

pub trees_text-requires-clause-arrays : goal.trees_text-requires-clause-arrays
trees_text-requires-clause-arrays c = reads_naming_arrays c.requires.0 c.args.program.now c.requires.1.reads

pub returns-in-Err-clause-err : goal.returns-in-Err-clause-err
returns-in-Err-clause-err c = refuses_each_tree c.args.program.now c.in-Err.refusal c.in-Err.ensures.err

pub returns-in-Err-trees_within-clause-err : goal.returns-in-Err-trees_within-clause-err
returns-in-Err-trees_within-clause-err c = refuses_each_tree c.args.program.now c.in-Err-trees_within.refusal c.in-Err-trees_within.ensures.err

pub returns-in-Ok-trees_text-clause-ok : goal.returns-in-Ok-trees_text-clause-ok
returns-in-Ok-trees_text-clause-ok c =
    told_trees c.args.program.now c.in-Ok.nest (trees_of c.in-Ok-trees_within.flow) c.in-Ok-trees_text.text.items c.in-Ok.ensures.nest c.in-Ok.ensures.within
    c.in-Ok-trees_within.ensures.named c.in-Ok-trees_within.ensures.limits c.in-Ok-trees_within.ensures.inputs c.in-Ok-trees_text.ensures
