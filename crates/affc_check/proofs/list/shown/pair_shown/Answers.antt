use Rattle.std.proofs.Common.{◌≡◌, Some, subst, rules}
use Rattle.std.specs.Prelude.{IfSome, FitsSigned}
use Rattle.std.specs.Int.{w64}
use Rattle.std.proofs.lemmas.Int.{to_z-of_z}
use Rattle.affc_life.specs.Products.{found_system}
use Rattle.affc_questions.specs.Asked.{IsAlong}
use Rattle.affc_check.specs.list.Items.{numbered}
use Rattle.affc_check.specs.list.Walks.{clash_systems}
use Rattle.affc_check.proofs.list.ShownLemmas.{each_numbered}
use Rattle.affc_check.proofs.list.shown.pair_shown.Goals as goal

pub apart-requires-clause-along : goal.apart-requires-clause-along
apart-requires-clause-along c =
    let a = c.args.along.now in
    let f : FitsSigned w64 c.args.number = search rules in
    let some = simp to_z-of_z at c.in_ok-found.ensures.some in
    let there = subst (λ o. IfSome o (λ f. numbered (clash_systems a.systems.now) c.args.number ≡ Some (found_system f))) c.in-Some.is some in
    each_numbered (IsAlong a.rows.now a.row.now a.modulus.now) (clash_systems a.systems.now) c.args.number (found_system c.in-Some.found) c.requires.along there
