use Rattle.affc_names.proofs.Programs.{outermost_is}
use Rattle.affc_names.proofs.program.outermost.Goals as goal

pub returns : goal.returns
returns c = outermost_is c.args.draft.now c.new-scope.result c.add_function.new.self c.as_str.result.now c.new-scope.ensures c.as_str.ensures c.in_ok-add_function.ensures
