use Rattle.affc_syntax.specs.draft.Drafts as seen
use Rattle.affc_names.proofs.Params.{last_from}
use Rattle.affc_names.proofs.program.last_of_each.Goals as goal

pub returns : goal.returns
returns c =
    last_from (seen.text c.args.draft.now) c.args.draft.now.params c.as_slice-params.result.now c.loop-left.left c.loop-left.scope c.add_function_beneath.new.scope c.as_str.result.now
    c.loop-left-test.false c.as_slice-params.ensures c.as_str.ensures c.loop-left.invariant.has_prelude c.loop-left.invariant.kinds c.in_ok-add_function_beneath.ensures
