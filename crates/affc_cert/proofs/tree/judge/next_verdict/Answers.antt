use Rattle.std.proofs.Common.{reverse}
use Rattle.serde_json.specs.View.{view}
use Rattle.affc_cert.proofs.tree.Steps.{node_taken}
use Rattle.affc_cert.proofs.tree.judge.next_verdict.Goals as goal

pub returns : goal.returns
returns c =
    node_taken c.args.statements.now c.in-Some.place (reverse c.args.places.now.items) (reverse c.take.new.places.items) (reverse c.open.new.places.items) c.step_verdict-verdict.result.1 (view c.args.value.now) c.step_verdict-verdict.result.0 c.in-Some.ensures
    c.step_verdict-verdict.ensures.verdict c.step_verdict-verdict.ensures.kind c.in_ok-open.ensures
