use Rattle.std.proofs.Common.{◌≡◌, [], ◌∷◌, ◌++◌, false, length, refl, sym, subst}
use Rattle.std.specs.List.{All}
use Rattle.affc_eliminate.specs.Sieves.{AreSieved}
use Rattle.affc_eliminate.specs.declared.kept.Kept.{Kept}
use Rattle.affc_eliminate.proofs.Sieves.{sieved_none, sieved_all, sieved_keep, sieved_drop}
use Rattle.affc_eliminate.proofs.sieve.without_implied.Goals as goal

pub loop-other-init : goal.loop-other-init
loop-other-init g c = subst (AreSieved (g.F.Test.answers c.args.screen.now.test) [] c.args.row.now) (sym c.new-left.ensures.items) (sieved_none (g.F.Test.answers c.args.screen.now.test) c.args.row.now)

pub loop-other-preserved-in-Continue-1 : goal.loop-other-preserved-in-Continue-1
loop-other-preserved-in-Continue-1 g c =
    subst (AreSieved (g.F.Test.answers c.args.screen.now.test) (c.loop-other.yielded ++ c.in-Some.other ∷ []) c.args.row.now) (sym c.in_ok-push.ensures.items)
    (sieved_keep (g.F.Test.answers c.args.screen.now.test) c.loop-other.yielded c.args.row.now c.loop-other.left.items c.in-Some.other c.loop-other.invariant c.if-not-implies.ensures.answer)

pub loop-other-preserved : goal.loop-other-preserved
loop-other-preserved g c =
    sieved_drop (g.F.Test.answers c.args.screen.now.test) c.loop-other.yielded c.args.row.now c.loop-other.left.items c.in-Some.other c.loop-other.invariant (c.if-not-implies.ensures.implies refl)

pub implies_none-requires : goal.implies_none-requires
implies_none-requires g c = subst (All (λ (k : Kept). length c.args.row.now.coefs ≡ length k.row.coefs)) (sym c.as_slice.ensures.value) c.requires

pub returns-then-implies_none : goal.returns-then-implies_none
returns-then-implies_none g c =
    sieved_all (g.F.Test.answers c.args.screen.now.test) c.args.others.items c.args.row.now
    (subst (All (λ (k : Kept). g.F.Test.answers c.args.screen.now.test c.args.row.now k.row false)) c.as_slice.ensures.value (c.if-implies_none.ensures refl))
