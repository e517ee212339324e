use Rattle.std.proofs.Common.{◌≡◌, length, refl, sym, subst, false}
use Rattle.std.specs.List.{All, Contains}
use Rattle.std.proofs.lemmas.Bool.{false≢true}
use Rattle.affc_eliminate.specs.Sieves.{AreAdmitted}
use Rattle.affc_eliminate.specs.declared.kept.Kept.{Kept}
use Rattle.affc_eliminate.proofs.Sieves.{admitted_trivial, admitted_implied, admitted_new}
use Rattle.affc_eliminate.proofs.sieve.admit.Goals as goal
use Rattle.affc_eliminate.proofs.sieve.admit.Goals.{then-is_trivial-via-then-is_trivial, then-is_trivial-via-else-is_trivial+then-is_implied}

pub is_implied-requires : goal.is_implied-requires
is_implied-requires g c = subst (All (λ (k : Kept). length k.row.coefs ≡ length c.args.kept.row.coefs)) (sym c.as_slice.ensures.value) c.requires

pub returns-then-is_trivial : goal.returns-then-is_trivial
returns-then-is_trivial g c = elim c.then-is_trivial.branch [
  | then-is_trivial-via-then-is_trivial w ↦ admitted_trivial (g.F.Test.answers c.args.screen.now.test) c.args.others.items c.args.kept (w.if-is_trivial.ensures.0 refl)
  | then-is_trivial-via-else-is_trivial+then-is_implied w ↦
      let k = w.if-is_implied.ensures.implied refl in
      admitted_implied (g.F.Test.answers c.args.screen.now.test) c.args.others.items c.args.kept k.0 c.requires (subst (λ xs. Contains xs k.0) w.as_slice.ensures.value k.1) k.2
]

pub without_implied-requires : goal.without_implied-requires
without_implied-requires g c = λ i d lt. sym (c.requires i d lt)

pub returns : goal.returns
returns g c =
    subst (AreAdmitted (g.F.Test.answers c.args.screen.now.test) c.args.others.items c.args.kept) (sym c.in_ok-push.ensures.items)
    (admitted_new (g.F.Test.answers c.args.screen.now.test) c.args.others.items c.in_ok-left.left.items c.args.kept
    (λ t. absurd (false≢true (c.if-is_trivial.ensures.1 t)))
    (subst (All (λ (k : Kept). g.F.Test.answers c.args.screen.now.test k.row c.args.kept.row false)) c.as_slice.ensures.value (c.if-is_implied.ensures.answered refl))
    c.in_ok-left.ensures)
