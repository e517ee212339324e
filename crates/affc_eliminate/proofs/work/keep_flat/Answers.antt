use Rattle.std.proofs.Common.{◌≡◌, length, sym, subst}
use Rattle.std.specs.List.{All}
use Rattle.affc_eliminate.specs.Sieves.{AreAdmitted}
use Rattle.affc_eliminate.specs.declared.kept.Kept.{Kept}
use Rattle.affc_eliminate.proofs.work.keep_flat.Goals as goal

pub admit-requires : goal.admit-requires
admit-requires g c = subst (λ (q : Kept). All (λ (k : Kept). length k.row.coefs ≡ length q.row.coefs) c.args.work.kept.items) (sym c.in-Ok.ensures) c.requires

pub returns-in-Ok-admit-clause-admitted : goal.returns-in-Ok-admit-clause-admitted
returns-in-Ok-admit-clause-admitted g c =
    subst (λ (q : Kept). AreAdmitted (g.F.Test.answers c.args.screen.now.test) c.args.work.kept.items q c.in-Ok-admit.kept.items) c.in-Ok.ensures c.in-Ok-admit.ensures
