use Rattle.std.proofs.Common.{◌≡◌, ◌≤◌, length, refl, sym, subst, arith}
use Rattle.std.specs.List.{All}
use Rattle.std.proofs.lemmas.Bool.{false≢true}
use Rattle.std.proofs.lemmas.List.{take_all}
use Rattle.std.proofs.lemmas.List.Elements.{All-more}
use Rattle.affc_rows.specs.Vocabulary.{opposite}
use Rattle.affc_eliminate.specs.declared.kept.Kept.{Kept}
use Rattle.affc_eliminate.proofs.opposites.opposite_place.Goals as goal

pub returns-then-is_opposite-clause-some : goal.returns-then-is_opposite-clause-some
returns-then-is_opposite-clause-some c = (c.index-rows-n.result, (c.loop-n-test.true, sym c.index-rows-n.is), c.if-is_opposite.ensures.0 refl)

pub loop-n-preserved : goal.loop-n-preserved
loop-n-preserved c =
    let P = λ (k : Kept). k.row ≡ opposite c.args.row.now → ⊥ in
    All-more P c.args.rows.now c.loop-n.n c.index-rows-n.result c.loop-n-test.true c.loop-n.invariant (subst P c.index-rows-n.is (λ e. false≢true (c.if-is_opposite.ensures.1 e)))

pub returns-clause-none : goal.returns-clause-none
returns-clause-none c =
    let done : length c.args.rows.now ≤ c.loop-n.n = omega arith in
    subst (All (λ (k : Kept). k.row ≡ opposite c.args.row.now → ⊥)) (take_all c.loop-n.n c.args.rows.now done) c.loop-n.invariant
