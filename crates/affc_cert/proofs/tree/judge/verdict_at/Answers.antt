use Rattle.std.proofs.Common.{◌≡◌, [], MatchOption, reverse, subst, rules}
use Rattle.serde_json.specs.View.{view}
use Rattle.affc_cert.specs.tree.Taken.{IsTaken}
use Rattle.affc_cert.proofs.tree.Steps.{place_kept, left_open, all_closed}
use Rattle.affc_cert.proofs.tree.judge.verdict_at.Goals as goal

pub loop-value-preserved : goal.loop-value-preserved
loop-value-preserved c =
    let before = reverse c.loop-value.places.items in
    let after = reverse c.next_verdict.new.places.items in
    let verdict = c.in-Some.verdict in
    let taken = subst (λ o. MatchOption o (before ≡ []) (λ v. IsTaken c.args.statements.now (view c.value-item.result) v before after)) c.in-Some.is c.in_ok-next.ensures in
    place_kept c.args.statements.now c.args.nodes.now c.loop-value.value-index c.value-item.result before after c.loop-value.worst c.and-worst.result verdict _ c.loop-value-test.true c.loop-value.invariant c.and-worst.ensures
    (subst (λ v. IsTaken c.args.statements.now (view v) verdict before after) c.value-item.is taken)

pub returns-then-is_empty : goal.returns-then-is_empty
returns-then-is_empty c =
    all_closed c.args.statements.now c.args.nodes.now c.loop-value.value-index c.loop-value.places.items c.loop-value.worst _ c.loop-value-test.false (search rules) c.loop-value.invariant

pub returns-else-is_empty : goal.returns-else-is_empty
returns-else-is_empty c =
    left_open c.args.statements.now c.args.nodes.now c.loop-value.value-index c.loop-value.places.items c.loop-value.worst _ c.loop-value-test.false (search rules) c.loop-value.invariant
