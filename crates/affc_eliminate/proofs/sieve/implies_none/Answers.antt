use Rattle.std.proofs.Common.{arith, false, sym, subst, length, ◌≤◌, ◌≡◌}
use Rattle.std.specs.List.{All}
use Rattle.std.proofs.lemmas.Bool.{false≢true}
use Rattle.std.proofs.lemmas.List.{take_all}
use Rattle.std.proofs.lemmas.List.Elements.{All-more}
use Rattle.affc_eliminate.specs.declared.kept.Kept.{Kept}
use Rattle.affc_eliminate.proofs.sieve.implies_none.Goals as goal

pub implies-requires : goal.implies-requires
implies-requires g c =
    subst (λ (k : Kept). length c.args.row.now.coefs ≡ length k.row.coefs) (sym c.other-item.is) (c.requires c.loop-other.other-index c.other-item.result c.loop-other-test.true)

pub loop-other-preserved : goal.loop-other-preserved
loop-other-preserved g c =
    let P = λ (k : Kept). g.F.Test.answers c.args.screen.now.test c.args.row.now k.row false in
    All-more P c.args.others.now c.loop-other.other-index c.other-item.result c.loop-other-test.true c.loop-other.invariant (subst P c.other-item.is c.if-implies.ensures.answer)

pub returns : goal.returns
returns g c = λ t.
    let done : length c.args.others.now ≤ c.loop-other.other-index = omega arith in
    subst (All (λ (k : Kept). g.F.Test.answers c.args.screen.now.test c.args.row.now k.row false)) (take_all c.loop-other.other-index c.args.others.now done) c.loop-other.invariant
