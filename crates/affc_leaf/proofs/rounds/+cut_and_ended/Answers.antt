use Rattle.std.proofs.Common.{◌≡◌, subst, ◌++◌, ◌∷◌, [], IfSome}
use Rattle.affc_leaf.specs.BoxCuts.{IsBoxCut}
use Rattle.affc_leaf.proofs.RootCuts.{seen_behind}
use Rattle.affc_leaf.proofs.rounds.+cut_and_ended.Goals as goal

pub returns-in-Ok : goal.returns-in-Ok
returns-in-Ok t c =
    let system = c.args.system in
    let bounds = c.args.bounds.now in
    let cut = c.in-Some.cut in
    let after = c.push_planned.new.system in
    let b = subst (λ o. IfSome o (λ k. IsBoxCut system bounds k.by k.g k.row)) c.in-Some.is c.in_ok-cut.ensures.cut in
    let v = subst (λ o. IfSome o (λ k. after ≡ record system { rows = system.rows ++ k.row ∷ [] })) c.in-Some.is c.in_ok-cut.ensures.value in
    seen_behind system after bounds c.args.next cut.by cut.g cut.row c.in-Ok.seen c.behind_cut.result b v c.requires.next c.in-Ok.ensures c.behind_cut.ensures
