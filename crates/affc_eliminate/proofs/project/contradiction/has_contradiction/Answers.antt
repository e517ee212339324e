use Rattle.std.proofs.Common.{refl, get_or}
use Rattle.std.proofs.lemmas.List.Elements.{Contains-get_or}
use Rattle.affc_eliminate.proofs.project.Contradictions.{nothing}
use Rattle.affc_eliminate.proofs.project.contradiction.has_contradiction.Goals as goal

pub returns-in-Some : goal.returns-in-Some
returns-in-Some c =
    let live = c.args.live.now in
    let place = c.in-Some._place in
    let some = c.in-Some.ensures.some in
    ((λ t. (get_or live place nothing, Contains-get_or live place nothing some.0, some.1 nothing)), (λ h. refl))
