use Rattle.affc_names.specs.Ranges.{lines_of}
use Rattle.affc_names.proofs.Programs.{program_ok, program_err}
use Rattle.affc_names.proofs.program.program_within.Goals as goal

pub returns-in-Ok : goal.returns-in-Ok
returns-in-Ok c =
    program_ok c.args.draft.now c.as_slice.result.now (lines_of c.args.ranges.now.entries) c.args.scope.now c.add_params.new.scope c.in-Ok.params c.with_params.result
    c.as_slice.ensures c.requires.scope c.requires.ranges c.in-Ok.ensures.tree c.in-Ok.ensures.visible c.with_params.ensures

pub first_refused-requires : goal.first_refused-requires
first_refused-requires c =
    program_err c.args.draft.now c.as_slice.result.now (lines_of c.args.ranges.now.entries) c.args.scope.now c.in-Err.fault
    c.as_slice.ensures c.requires.scope c.requires.ranges c.in-Err.ensures.tree
