use Rattle.std.proofs.Common.{length, ◌≤◌, subst, arith}
use Rattle.std.specs.List.{All}
use Rattle.std.proofs.lemmas.Bool.{false≢true}
use Rattle.std.proofs.lemmas.List.{take_all}
use Rattle.std.proofs.lemmas.List.Elements.{All-more}
use Rattle.affc_eliminate.specs.declared.kept.Kept.{Kept}
use Rattle.affc_eliminate.specs.project.States.{IsContradiction}
use Rattle.affc_eliminate.proofs.project.contradiction.contradiction.Goals as goal

pub loop-place-preserved : goal.loop-place-preserved
loop-place-preserved c =
    let P = λ (k : Kept). IsContradiction k.row → ⊥ in
    All-more P c.args.live.now c.loop-place.place c.index-live-place.result c.loop-place-test.true c.loop-place.invariant (subst P c.index-live-place.is (λ i. false≢true (c.if-is_contradiction.ensures.1 i)))

pub returns-clause-none : goal.returns-clause-none
returns-clause-none c =
    let done : length c.args.live.now ≤ c.loop-place.place = omega arith in
    subst (All (λ (k : Kept). IsContradiction k.row → ⊥)) (take_all c.loop-place.place c.args.live.now done) c.loop-place.invariant
