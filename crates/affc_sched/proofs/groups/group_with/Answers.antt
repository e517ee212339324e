use Rattle.std.proofs.Common.{◌∷◌, ◌++◌, [], ap, subst, ◌∙◌, ◌≤◌}
use Rattle.std.specs.List.{All}
use Rattle.affc_system.specs.Systems.{IsRow}
use Rattle.affc_sched.proofs.GroupLemmas.{group_within}
use Rattle.affc_sched.proofs.groups.group_with.Goals as goal

pub returns-clause-within : goal.returns-clause-within
returns-clause-within c =
    let pair = c.args.pair in
    let k = c.columns-columns.ensures.value in
    let front = c.from_vec-front.ensures ∙ c.into_rows.ensures.rows in
    let first = c.in_ok-push.ensures.ok ∙ ap (λ fs. fs ++ c.from_vec.result ∷ []) c.new-factors.ensures ∙ ap (λ f. f ∷ []) c.from_vec.ensures in
    let both = c.in_ok-push-2.ensures.ok ∙ ap (λ fs. fs ++ c.from_vec-2.result ∷ []) first ∙ ap (λ f. c.args.earlier.items ∷ f ∷ []) c.from_vec-2.ensures in
    group_within pair c.args.earlier.items c.args.later.items (record { columns = c.columns-columns.result; front = c.from_vec-front.result; factors = c.push-2.new.self })
    (λ i. record { columns = k i; front = front i; factors = both i })
    (subst (λ n. n ≤ 128) k c.columns-columns.ensures.few) c.requires.pair (subst (All (IsRow pair.columns)) c.into_rows.ensures.rows c.into_rows.ensures.fit)
    c.requires.earlier c.requires.later
