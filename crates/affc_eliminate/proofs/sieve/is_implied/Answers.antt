use Rattle.std.proofs.Common.{arith, false, sym, subst, length, ◌≤◌, ◌≡◌}
use Rattle.std.specs.List.{All}
use Rattle.std.proofs.lemmas.Bool.{false≢true}
use Rattle.std.proofs.lemmas.List.{take_all}
use Rattle.std.proofs.lemmas.List.Elements.{All-more}
use Rattle.affc_eliminate.specs.declared.kept.Kept.{Kept}
use Rattle.affc_eliminate.proofs.sieve.is_implied.Goals as goal

pub implies-requires : goal.implies-requires
implies-requires g c =
    subst (λ (k : Kept). length k.row.coefs ≡ length c.args.row.now.coefs) (sym c.other-item.is) (c.requires c.loop-other.other-index c.other-item.result c.loop-other-test.true)

pub returns-then-implies-clause-implied : goal.returns-then-implies-clause-implied
returns-then-implies-clause-implied g c = λ t. (c.other-item.result, (c.loop-other.other-index, c.loop-other-test.true, sym c.other-item.is), c.if-implies.ensures.implies t)

pub returns-then-implies-clause-answered : goal.returns-then-implies-clause-answered
returns-then-implies-clause-answered g c = λ e. absurd (false≢true (sym e))

pub loop-other-preserved : goal.loop-other-preserved
loop-other-preserved g c =
    let P = λ (k : Kept). g.F.Test.answers c.args.screen.now.test k.row c.args.row.now false in
    All-more P c.args.others.now c.loop-other.other-index c.other-item.result c.loop-other-test.true c.loop-other.invariant (subst P c.other-item.is c.if-implies.ensures.answer)

pub returns-clause-answered : goal.returns-clause-answered
returns-clause-answered g c = λ e.
    let done : length c.args.others.now ≤ c.loop-other.other-index = omega arith in
    subst (All (λ (k : Kept). g.F.Test.answers c.args.screen.now.test k.row c.args.row.now false)) (take_all c.loop-other.other-index c.args.others.now done) c.loop-other.invariant
